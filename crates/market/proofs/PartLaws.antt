-- Laws of adding up the supply of the rows that pass a test, one row after the other. Assumes nothing.
use Prim.Native.Nat.{ℕ, ◌+◌, ◌*◌, ◌^◌, ◌≤◌, ◌<◌}
use mathlib.Core.Path.{◌≡◌}
use mathlib.Core.Bool.{Bool, true, false}
use mathlib.Core.List.{List}
use native.Mathlib.Omega.{arith}
use lib.ListN.{drop}
use Rattle.tables.specs.Rows.{SupplyRow}
use Rattle.tables.specs.promises.FlatRows.{supply_rows}
use Rattle.cells.specs.promises.Views.{supply_at}
use Rattle.offers.specs.Supply.{supply, total_supply}
use Rattle.offers.specs.promises.Ranges.{SupplyCells}
use Rattle.offers.proofs.RangeLaws.{most_supply, supply-small}
use Rattle.offers.proofs.CellLaws.{rows_next, rows_end, row-cells}
use Rattle.market.specs.promises.Parts.{Tests, AddsUp}

module _ (answers : ℕ → Bool → Type 0) (n : ℕ) (cells : List ℕ) where
  -- what holds before row i: the sum fits, and with what the rows from there on supply it is all
  pub record Adding (i sum : ℕ) : Type 0 where
    pub small : sum ≤ i * most_supply
    pub adds :
        (p : SupplyRow → Bool) → Tests answers n cells p →
        sum + total_supply p (drop i (supply_rows n cells)) ≡ total_supply p (supply_rows n cells)

  pub adding-none : Adding 0 0
  adding-none = record { small = omega arith; adds = λ p t. omega arith }

  module _ (i sum : ℕ) (adding : Adding i sum) where
    pub adding-fits : SupplyCells n cells → i < n → (x : ℕ) → x ≡ supply (supply_at cells i) → sum + x < 2 ^ 64
    adding-fits s h x e =
        omega (arith, e, s.few, adding.small, supply-small _ (row-cells n cells i s h).permitted)

    pub adding-in :
        SupplyCells n cells → i < n → answers i true → (x : ℕ) → x ≡ supply (supply_at cells i) → Adding (i + 1) (sum + x)
    unfolding total_supply
    adding-in s h y x e =
        record {
          small = omega (arith, e, adding.small, supply-small _ (row-cells n cells i s h).permitted);
          adds = λ p t. let all = rw (rows_next n cells i h, ← t i true h y) at (adding.adds p t) in omega (arith, e, all);
        }

    pub adding-out : i < n → answers i false → Adding (i + 1) sum
    unfolding total_supply
    adding-out h y =
        record {
          small = omega (arith, adding.small);
          adds = λ p t. let all = rw (rows_next n cells i h, ← t i false h y) at (adding.adds p t) in omega (arith, all);
        }

    pub adding-over : n ≤ i → AddsUp answers n cells sum
    unfolding total_supply
    adding-over h p t = let all = rw (rows_end n cells i h) at (adding.adds p t) in omega (arith, all)
