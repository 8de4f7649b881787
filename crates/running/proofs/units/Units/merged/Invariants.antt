-- The merge, one turn after the other. Assumes nothing.
use Prim.Native.Nat.{◌+◌, ◌-◌}
use Rattle.running.specs.View.{units_of}
use Rattle.running.proofs.CommitLaws.{Merging}
use Rattle.running.proofs.units.Units.merged.Given as goal

abbrev pub invariant-loop-self : goal.invariant-loop-self
invariant-loop-self l =
    Merging (units_of l.chosen) (units_of l.self) l.running l.count l.i l.j

abbrev pub decreases-loop-self : goal.decreases-loop-self
decreases-loop-self l = (l.self.count - l.i) + (l.chosen.count - l.j)
