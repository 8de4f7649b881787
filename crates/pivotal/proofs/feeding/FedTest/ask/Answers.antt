-- What the test of the amounts given so far answers. Assumes nothing.
use mathlib.Core.Path.{◌≡◌, sym}
use native.Mathlib.Omega.{arith}
use Rattle.pivotal.specs.promises.Asking.{left_kept}
use Rattle.pivotal.proofs.FeedingLaws.{asked-past, asked-nowhere, asked-within, answers-asked}
use Rattle.pivotal.proofs.feeding.FedTest.ask.Goals as goal

pub returns-then-self-gt-AMOUNTS : goal.returns-then-self-gt-AMOUNTS
returns-then-self-gt-AMOUNTS c = answers-asked (sym (asked-past _ (omega arith)))

pub returns-then-self : goal.returns-then-self
returns-then-self c = answers-asked (sym (asked-nowhere _ (omega arith) (omega arith)))

pub returns : goal.returns
unfolding left_kept
returns c =
    let t = c.args.self in
    let kept : c.saturating_sub-left.result ≡ left_kept t = omega (arith, c.saturating_sub-left.ensures, c.saturating_sub.ensures) in
    answers-asked (rw (c.found.ensures, kept) (sym (asked-within t (omega arith) (omega arith))))
