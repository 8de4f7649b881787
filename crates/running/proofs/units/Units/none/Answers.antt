-- Nothing running. Assumes nothing.
use mathlib.Core.Path.{refl}
use Rattle.running.specs.View.{first_units, units_of}
use Rattle.running.proofs.units.Units.none.Goals as goal

pub returns : goal.returns
unfolding units_of first_units
returns c = record { result_value = refl; most = refl }
