-- Laws of supply rows that stand in cells: the rows one after the other, the cells of a row, and what is known of each row.
-- Assumes nothing.
use Prim.Native.Nat.{ℕ, ◌+◌, ◌-◌, ◌*◌, ◌≤◌, ◌<◌}
use mathlib.Core.Path.{◌≡◌, refl, sym, ◌∙◌}
use mathlib.Core.List.{List, [], ◌∷◌, Memᴰ}
use native.Mathlib.Omega.{arith}
use lib.ListN.{get_or, drop}
use lib.Seq.{get_or-drop}
use Rattle.base.proofs.Lists.{drop-end}
use Rattle.base.proofs.Members.{member-of-rest}
use Rattle.tables.specs.Rows.{magnitude}
use Rattle.tables.specs.promises.FlatRows.{supply_rows}
use Rattle.cells.specs.promises.Views.{supply_at}
use Rattle.cells.proofs.RowViews.{supply-next, supply-length}
use Rattle.offers.specs.Offer.{capped}
use Rattle.offers.specs.Supply.{abs_dfax, supply, offer, cost_beside, no_row, row_at}
use Rattle.offers.specs.promises.Ranges.{SupplyRowAt, SupplyCells}

-- what the code computes of a row's cells
module _ (cells : List ℕ) (i : ℕ) where
  pub dfax-below : get_or cells (i * 5 + 4) 0 < 10000 → 10000 - get_or cells (i * 5 + 4) 0 ≡ abs_dfax (supply_at cells i)
  unfolding abs_dfax magnitude
  dfax-below h = omega arith

  pub dfax-above : 10000 ≤ get_or cells (i * 5 + 4) 0 → get_or cells (i * 5 + 4) 0 - 10000 ≡ abs_dfax (supply_at cells i)
  unfolding abs_dfax magnitude
  dfax-above h = omega arith

  pub supply-cells : (a : ℕ) → a ≡ abs_dfax (supply_at cells i) → get_or cells (i * 5 + 2) 0 * a ≡ supply (supply_at cells i)
  unfolding supply
  supply-cells a e = rw e

  pub beside-cells :
      (o x a : ℕ) → x ≡ capped (get_or cells (i * 5 + 3) 0) → a ≡ abs_dfax (supply_at cells o) →
      x * a ≡ cost_beside (supply_at cells o) (supply_at cells i)
  unfolding cost_beside offer
  beside-cells o x a e f = rw (e, f)

module _ (n : ℕ) (cells : List ℕ) (i : ℕ) where
  pub rows_next : i < n → drop i (supply_rows n cells) ≡ supply_at cells i ∷ drop (i + 1) (supply_rows n cells)
  rows_next h = supply-next n cells i h

  -- the row at a place, by its cells
  pub row-at : i < n → row_at (supply_rows n cells) i ≡ supply_at cells i
  unfolding row_at
  row-at h =
      let here : i + 0 ≡ i = omega arith in
      rw here at (sym (get_or-drop i (supply_rows n cells) 0 no_row)) ∙ rw (rows_next h)

  pub rows_end : n ≤ i → drop i (supply_rows n cells) ≡ []
  rows_end h = drop-end i (supply_rows n cells) (rw (supply-length n cells) h)

  pub row-member : i < n → Memᴰ (supply_at cells i) (supply_rows n cells)
  row-member h = member-of-rest i (supply_rows n cells) (rw (rows_next h) (Memᴰ.head refl))

  pub row-cells : SupplyCells n cells → i < n → SupplyRowAt cells i
  row-cells s h =
      record {
        inside = omega (arith, s.inside);
        permitted = s.permitted (supply_at cells i) (row-member h);
      }
