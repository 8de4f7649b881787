-- The columns of all files, one behind the other, as the code's tables have them. Assumes nothing.
use Rattle.std.specs.Prelude.{ℕ, List, ◌++◌, get_or}
use Rattle.tables.specs.Table.{Column, column, constraint_columns, supply_columns, schedules_columns, curves_columns, parents_columns}
use Rattle.tables.specs.declared.columns.Form.TheVariants.{Numeral as numeral}
use Rattle.tables.specs.declared.files.File.{File}
use Rattle.tables.specs.declared.files.File.TheVariants.{Constraint, Supply, Schedules, Curves, Parents}

unfoldable pub all_columns : List Column
all_columns = constraint_columns ++ supply_columns ++ schedules_columns ++ curves_columns ++ parents_columns

-- how many they are
abbrev pub column_count : ℕ
column_count = 24

-- where those of a file begin
abbrev pub first_column : File → ℕ
first_column Constraint = 0
first_column Supply = 3
first_column Schedules = 8
first_column Curves = 17
first_column Parents = 22

unfoldable pub column_at : ℕ → Column
column_at i = get_or all_columns i (column "" numeral 0 0)
