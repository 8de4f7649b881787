-- Units by their count, and one after the other. Assumes nothing.
use mathlib.Core.Path.{◌≡◌}
use mathlib.Core.List.{map}
use lib.ListN.{drop}
use Rattle.outcome.specs.Day.{rising_in_range}
use Rattle.running.specs.promises.Forming.{units_formed}
use Rattle.running.specs.View.{unit_of, units_of}
use Rattle.running.proofs.units.Units.is_formed.Given as goal

abbrev pub invariant-loop-r : goal.invariant-loop-r
invariant-loop-r l = units_formed (units_of l.fn.self) ≡ rising_in_range l.last (map unit_of (drop l.r-index l.r-items))
