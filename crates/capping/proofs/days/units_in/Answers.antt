-- One place after the other. Assumes nothing.
use native.Mathlib.Omega.{arith}
use Rattle.running.specs.View.{units_of}
use Rattle.capping.proofs.DayInLaws.{taking-over}
use Rattle.capping.proofs.days.units_in.Goals as goal

pub returns : goal.returns
unfolding units_of
returns c = taking-over _ _ _ c.loop-i.invariant (omega arith) _
