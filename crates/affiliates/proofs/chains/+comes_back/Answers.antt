-- A chain over, at its end, back, or one step on. Assumes nothing.
use native.Mathlib.Omega.{arith}
use Rattle.affiliates.proofs.WalkLaws.{back-over, back-ends, back-here, back_on}
use Rattle.affiliates.proofs.chains.+comes_back.Goals as goal

pub returns-then-left-eq0 : goal.returns-then-left-eq0
returns-then-left-eq0 t c = back-over _ _ _ _ (omega arith)

pub returns-then-parent-eq0 : goal.returns-then-parent-eq0
returns-then-parent-eq0 t c = back-ends _ _ _ _ c.at_place-parent.ensures (omega arith) _ (omega arith)

pub returns-then-parent-supplier : goal.returns-then-parent-supplier
returns-then-parent-supplier t c = back-here _ _ _ _ c.at_place-parent.ensures (omega arith) (omega arith) _ (omega arith)

pub returns : goal.returns
returns t c =
    back_on _ _ _ _ c.at_place-parent.ensures (omega arith) (omega arith) _ (omega arith) _ (omega arith) c.comes_back.ensures
