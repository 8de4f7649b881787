-- One case: the run of cells has room for any file. Assumes nothing.
use Rattle.std.proofs.Common.{ℕ, ◌≤◌}
use native.Mathlib.Omega.{arith}
use Rattle.tables.specs.promises.Laying.{room}
use Rattle.tables.specs.Table.{width, constraint_columns, supply_columns, schedules_columns, curves_columns, parents_columns}
use Rattle.tables.specs.declared.files.File.{File}
use Rattle.tables.specs.declared.files.File.TheVariants.{Constraint, Supply, Schedules, Curves, Parents}
use Rattle.test_onepass.proofs.report.case.Goals as goal

-- a run that has room for the longest file has room for each
room-enough : (f : File) (n : ℕ) → 20480 ≤ n → room f ≤ n
unfolding room width constraint_columns supply_columns schedules_columns curves_columns parents_columns
room-enough Constraint n l = omega arith
room-enough Supply n l = omega arith
room-enough Schedules n l = omega arith
room-enough Curves n l = omega arith
room-enough Parents n l = omega arith

pub read-reading-requires : goal.read-reading-requires
read-reading-requires g c = room-enough _ _ (omega arith)
