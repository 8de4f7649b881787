-- One place after the other. Assumes nothing.
use native.Mathlib.Omega.{arith}
use Rattle.capping.proofs.LayingLaws.{laying-place, laying-over}
use Rattle.capping.proofs.days.lay_units.Goals as goal

pub loop-i-preserved : goal.loop-i-preserved
loop-i-preserved c = let inv = c.loop-i.invariant in (
  rw c.lay_place.ensures
      (laying-place _ _ _ _ _ inv.0 inv.1 inv.2 (omega arith) _ c.place_of.ensures),
  inv.1,
  inv.2,
)

pub returns : goal.returns
returns c = laying-over _ _ _ _ c.loop-i.invariant.0 (omega arith)
