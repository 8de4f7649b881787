-- What the code assumes of a relief and of supply rows that it is lent as cells: that the table permits them, so that sums
-- and products fit. Assumes nothing itself.
use Rattle.std.specs.Prelude.{ℕ, ◌+◌, ◌*◌, ◌≤◌, length}
use mathlib.Core.List.{List, Memᴰ}
use Rattle.tables.specs.Table.{table}
use Rattle.tables.specs.promises.Ranges.{PermittedSupply}
use Rattle.tables.specs.Rows.{SupplyRow}
use Rattle.cells.specs.promises.Views.{supply_at}
use Rattle.tables.specs.declared.files.File.TheVariants.{Constraint, Supply}
use Rattle.tables.specs.promises.FlatRows.{supply_rows}
use Rattle.tables.specs.promises.Columns.{first_column, column_at}

abbrev pub most_relief : ℕ
most_relief = (column_at (first_column Constraint + 1)).maximum

pub record SupplyRowAt (cells : List ℕ) (i : ℕ) : Type 0 where
  pub inside : i * 5 + 5 ≤ length cells
  pub permitted : PermittedSupply (supply_at cells i)

-- a run of cells that begins with n rows
pub record SupplyCells (n : ℕ) (cells : List ℕ) : Type 0 where
  pub inside : n * 5 ≤ length cells
  pub few : n ≤ (table Supply).most_rows
  pub permitted : (r : SupplyRow) → Memᴰ r (supply_rows n cells) → PermittedSupply r
