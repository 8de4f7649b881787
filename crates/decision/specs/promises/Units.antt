-- The units of supply, and a unit's supply rows, as they stand in cells. Assumes nothing.
use Rattle.std.specs.Prelude.{ℕ, ◌≤◌, ◌<◌, ◌≡◌, Bool, ◌&&◌, List, length, take, drop}
use Rattle.base.specs.Rising.{RisingFrom}
use Rattle.base.specs.Search.{any}
use Rattle.tables.specs.Rows.{SupplyRow}
use Rattle.tables.specs.promises.FlatRows.{supply_rows}
use Rattle.cells.specs.promises.Views.{supply_at}
use Rattle.supply.specs.Supply.{most_units, units}
use Rattle.market.specs.promises.Parts.{Tests}
use Rattle.outcome.specs.Decision.{of_unit, unit_row}

-- a run that begins with the k units of supply
pub record UnitsOf (k : ℕ) (supply : List SupplyRow) (run : List ℕ) : Type 0 where
  pub few : k ≤ most_units
  pub there : k ≤ length run
  pub counted : k ≡ length (units supply)
  pub listed : take k run ≡ units supply
  pub rising : RisingFrom 0 (units supply)

-- whether some row is the unit's and passes a test
abbrev pub any_of : ℕ → (SupplyRow → Bool) → List SupplyRow → Bool
any_of u p = any (λ (row : SupplyRow). of_unit u row && p row)

-- the place of the first of the unit's rows among n
pub record UnitFound (u n : ℕ) (cells : List ℕ) (r : ℕ) : Type 0 where
  pub within : r < n
  pub found : supply_at cells r ≡ unit_row (supply_rows n cells) u
  pub none_before : (p : SupplyRow → Bool) → any_of u p (supply_rows n cells) ≡ any_of u p (drop r (supply_rows n cells))

-- Whether some row is the unit's and passes, whatever test of rows it is.
abbrev pub HasWanted : (ℕ → Bool → Type 0) → ℕ → ℕ → List ℕ → Bool → Type 0
HasWanted answers u n cells r = (p : SupplyRow → Bool) → Tests answers n cells p → r ≡ any_of u p (supply_rows n cells)
