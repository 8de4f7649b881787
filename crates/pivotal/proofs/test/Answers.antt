-- The test of a run of amounts, which are fed one after the other. Assumes nothing.
use mathlib.Core.Path.{refl, sym, ◌∙◌}
use native.Mathlib.Omega.{arith}
use Rattle.pivotal.proofs.FeedingLaws.{fed-next, fed-end}
use Rattle.pivotal.proofs.test.Goals as goal

pub loop-amount-init : goal.loop-amount-init
loop-amount-init c = rw c.begin-fed.ensures refl

pub loop-amount-preserved : goal.loop-amount-preserved
loop-amount-preserved c =
    let loop = c.loop-amount in
    rw c.feed-fed.ensures (sym (fed-next _ loop.amount-index loop.fed (omega arith)) ∙ loop.invariant)

pub returns : goal.returns
returns c =
    let loop = c.loop-amount in
    c.ask.ensures _ _ _ (sym (fed-end _ loop.amount-index loop.fed (omega arith)) ∙ loop.invariant)
