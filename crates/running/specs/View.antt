-- The units that are seen running, by the places in which they are kept. Assumes nothing: where more are counted than there are
-- places, as many are seen as are counted, and so an ill-formed day as the one that it is.
use Rattle.std.specs.Prelude.{ℕ, zero, suc, List, [], ◌∷◌}
use Rattle.tables.specs.declared.files.Kind.TheVariants.{M}
use Rattle.outcome.specs.Day.{RunningUnit}
use Rattle.running.specs.declared.units.Running.{Running}
use Rattle.running.specs.declared.units.Units.{Units}

abbrev pub unit_of : Running → RunningUnit
unit_of r = record { unit = r.unit; schedule = r.schedule; kind = r.kind }

-- what is seen in a place that isn't there: no unit has the number 0
abbrev pub missing : RunningUnit
missing = record { unit = 0; schedule = 0; kind = M }

-- the first n units, n of them whatever the places
unfoldable pub first_units : ℕ → List Running → List RunningUnit
first_units zero rs = []
first_units (suc n) [] = missing ∷ first_units n []
first_units (suc n) (r ∷ rs) = unit_of r ∷ first_units n rs

unfoldable pub units_of : Units → List RunningUnit
units_of us = first_units us.count us.running
