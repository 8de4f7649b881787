-- The test with one amount more. Assumes nothing.
use mathlib.Core.Path.{sym, ◌∙◌}
use native.Mathlib.Omega.{arith}
use Rattle.pivotal.proofs.FeedingLaws.{taken-within, other-small, fed-taken, fed-past}
use Rattle.pivotal.proofs.feeding.FedTest.feed.Goals as goal

pub returns-then-not-takes : goal.returns-then-not-takes
returns-then-not-takes c = fed-past _ _ (sym c.takes.ensures ∙ c.if-not-takes.true)

pub overflow_add-count : goal.overflow_add-count
overflow_add-count c =
    omega (arith, taken-within _ _ (sym c.takes.ensures ∙ c.if-not-takes.false))

pub overflow_add-total : goal.overflow_add-total
overflow_add-total c =
    let args = c.args in
    let within = taken-within args.self args.amount (sym c.takes.ensures ∙ c.if-not-takes.false) in
    omega (arith, within, other-small args.self args.amount, c.other-other.ensures)

pub returns : goal.returns
returns c =
    fed-taken _ _ (sym c.takes.ensures ∙ c.if-not-takes.false) _ _ c.other-other.ensures c.with.ensures
