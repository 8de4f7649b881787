-- One place after the other. Assumes nothing.
use mathlib.Core.Path.{◌≡◌}
use lib.ListN.{length}
use Rattle.outcome.specs.Day.{most_running}
use Rattle.running.specs.View.{units_of}
use Rattle.capping.proofs.LayingLaws.{Laying}
use Rattle.capping.proofs.days.lay_units.Given as goal

abbrev pub invariant-loop-i : goal.invariant-loop-i
invariant-loop-i l =
    Laying (units_of l.units) l.initial.cells l.cells l.i × (l.count ≡ l.units.count) × (length l.units.running ≡ most_running)
