-- What is promised where code is lent a test of the places of rows. Assumes nothing.
use Rattle.std.specs.Prelude.{ℕ, ◌<◌, ◌≡◌, Bool, List}
use Rattle.tables.specs.Rows.{SupplyRow}
use Rattle.tables.specs.promises.FlatRows.{supply_rows}
use Rattle.cells.specs.promises.Views.{supply_at}
use Rattle.offers.specs.Supply.{total_supply}

-- At the places of n rows, a test that answers b at the place k only if `answers k b` is the test p of the rows there.
abbrev pub Tests : (ℕ → Bool → Type 0) → ℕ → List ℕ → (SupplyRow → Bool) → Type 0
Tests answers n cells p = (k : ℕ) (b : Bool) → k < n → answers k b → b ≡ p (supply_at cells k)

-- The sum is the supply of the rows that pass, whatever test of rows it is.
abbrev pub AddsUp : (ℕ → Bool → Type 0) → ℕ → List ℕ → ℕ → Type 0
AddsUp answers n cells sum = (p : SupplyRow → Bool) → Tests answers n cells p → sum ≡ total_supply p (supply_rows n cells)
