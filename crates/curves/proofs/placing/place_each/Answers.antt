-- The row of each point, one point a turn. Assumes nothing.
use native.Mathlib.Omega.{arith}
use Rattle.curves.proofs.PlacingLaws.{placing-none, placing-here, placing-next, placing-over}
use Rattle.curves.proofs.placing.place_each.Goals as goal

pub loop-i-init : goal.loop-i-init
loop-i-init c = placing-none _ _ _ _ _

pub returns-in_default : goal.returns-in_default
returns-in_default c = placing-here _ _ _ _ _ _ _ c.loop-i.invariant c.loop-i-test.true (rw c.in_default.is at c.row_of.ensures)

pub loop-i-preserved : goal.loop-i-preserved
loop-i-preserved c = placing-next _ _ _ _ _ _ _ c.loop-i.invariant c.loop-i-test.true _ (rw c.in-Some.is at c.row_of.ensures) _ (omega arith) (omega arith)

pub returns : goal.returns
returns c = placing-over _ _ _ _ _ _ _ c.loop-i.invariant c.loop-i-test.false (omega arith)
