-- A chain over, at its end, or one step on. Assumes nothing.
use native.Mathlib.Omega.{arith}
use Rattle.affiliates.proofs.WalkLaws.{head-over, head-ends, head-on}
use Rattle.affiliates.proofs.chains.+head.Goals as goal

pub returns-then-left-eq0-clause-value : goal.returns-then-left-eq0-clause-value
returns-then-left-eq0-clause-value t c = head-over _ _ _ (omega arith)

pub returns-then-parent-eq0-clause-value : goal.returns-then-parent-eq0-clause-value
returns-then-parent-eq0-clause-value t c = head-ends _ _ _ _ c.at_place-parent.ensures (omega arith) (omega arith)

pub returns-clause-value : goal.returns-clause-value
returns-clause-value t c =
    head-on _ _ _ _ c.at_place-parent.ensures (omega arith) (omega arith) _ (omega arith) c.head.ensures.value
