-- What the search for the clearing cost keeps and promises: two bounds, each the cost of a row, between which the clearing
-- cost lies. Assumes nothing.
use Rattle.std.specs.Prelude.{ℕ, ◌≤◌, ◌<◌, ◌≡◌, ◌⊎◌, Bool, true, false, cond, ◌&&◌, List, ltb, eqb, length, unwrap_or}
use Rattle.base.specs.Search.{first}
use Rattle.tables.specs.Rows.{SupplyRow}
use Rattle.tables.specs.promises.FlatRows.{supply_rows}
use Rattle.market.specs.declared.narrowing.Bounds.{Bounds}
use Rattle.offers.specs.Supply.{eligible, supply, total_supply, cost_beside, at_most, below}
use Rattle.market.specs.Clearing.{eligible_up_to, clears}
use Rattle.cells.specs.promises.Views.{supply_at}

-- eligible rows of the cost of the row q, and the place of the first of them
unfoldable pub eligible_at : ℕ → SupplyRow → SupplyRow → Bool
eligible_at cutoff q r = eligible cutoff r && eqb (cost_beside q r) (cost_beside r q)

unfoldable pub first_at : ℕ → SupplyRow → List SupplyRow → ℕ
first_at cutoff q rows = unwrap_or (first (eligible_at cutoff q) 0 rows) (length rows)

-- the rows that are tried: some row of the clearing cost supplies something
unfoldable pub counts : ℕ → SupplyRow → Bool
counts cutoff r = eligible cutoff r && ltb 0 (supply r)

module _ (n : ℕ) (cells : List ℕ) where
  -- whether the cost of the row at i is below that of the row at j, or there is no such row
  unfoldable pub cheaper : ℕ → ℕ → Bool
  cheaper i j = cond (ltb i n && ltb j n) (below (supply_at cells j) (supply_at cells i)) true

  -- whether the row at i counts and is between the bounds
  unfoldable pub between : ℕ → Bounds → ℕ → Bool
  between cutoff b i = counts cutoff (supply_at cells i) && (cheaper b.low i && cheaper i b.high)

  -- the cost of q is at or below the low bound, or at or above the high one
  abbrev pub Outside : Bounds → SupplyRow → Type 0
  Outside b q =
      ((b.low < n) × (at_most (supply_at cells b.low) q ≡ true)) ⊎ ((b.high < n) × (at_most q (supply_at cells b.high) ≡ true))

module _ (n : ℕ) (cells : List ℕ) (cutoff need : ℕ) where
  -- the rows at or below the low bound supply less than the need, those at or below the high one at least the need
  pub record Bounding (b : Bounds) : Type 0 where
    pub low-counts : b.low < n → counts cutoff (supply_at cells b.low) ≡ true
    pub low-short : b.low < n → total_supply (eligible_up_to cutoff (supply_at cells b.low)) (supply_rows n cells) < need
    pub high-counts : b.high < n → counts cutoff (supply_at cells b.high) ≡ true
    pub high-enough : b.high < n → need ≤ total_supply (eligible_up_to cutoff (supply_at cells b.high)) (supply_rows n cells)

  -- the bounds r, where the row at i has been looked at and the bounds b stood before
  pub record Narrows (b : Bounds) (i : ℕ) (r : Bounds) : Type 0 where
    pub bounding : Bounding r
    pub still-outside : (q : SupplyRow) → Outside n cells b q → Outside n cells r q
    pub now-outside : i < n → counts cutoff (supply_at cells i) ≡ true → Outside n cells r (supply_at cells i)

  -- the row at r is of the clearing cost, or none clears
  pub record ClearingCost (r : ℕ) : Type 0 where
    pub at-cost : r < n → (q : SupplyRow) → clears cutoff need (supply_rows n cells) q ≡ eligible_at cutoff (supply_at cells r) q
    pub none-clears : n ≤ r → (q : SupplyRow) → clears cutoff need (supply_rows n cells) q ≡ false
