-- Laws of trying rows in file order until one passes a test, over plain lists. Assumes nothing.
use Prim.Native.Nat.{ℕ, zero, suc, ◌+◌}
use mathlib.Core.Path.{◌≡◌, refl, sym, ◌∙◌, ap}
use mathlib.Core.Bool.{Bool, true, false, cond}
use mathlib.Core.List.{List, [], ◌∷◌}
use native.Mathlib.Omega.{arith}
use native.Mathlib.Numerals.{add-one}
use lib.ListN.{length, drop}
use Rattle.std.specs.Prelude.{None, Option, Some}
use Rattle.std.specs.List.{find, range_with_len}
use Rattle.std.specs.Option.{unwrap_or}
use Rattle.base.specs.Search.{first}
use Rattle.tables.specs.Rows.{SupplyRow}
use Rattle.tables.specs.promises.FlatRows.{supply_rows}
use Rattle.cells.proofs.RowViews.{supply-length}
use Rattle.market.specs.Clearing.{clears, clearing}
use Rattle.market.specs.promises.Narrowing.{eligible_at, first_at}
use Rattle.cells.specs.promises.Views.{supply_at}
use Rattle.offers.proofs.CellLaws.{rows_next, rows_end}

-- rows tried from a place on: the place of the first that passes, or n where none does
module _ (n : ℕ) (cells : List ℕ) (p : SupplyRow → Bool) where
  abbrev passes : ℕ → Bool
  passes i = p (supply_at cells i)

  try-one : (t : Bool) (i l : ℕ) (f g : Option ℕ) → unwrap_or f n ≡ unwrap_or g l → unwrap_or (cond t (Some i) f) n ≡ unwrap_or (cond t (Some i) g) l
  try-one true i l f g e = refl
  try-one false i l f g e = e

  try-range : (left i : ℕ) → i + left ≡ n → unwrap_or (find passes (range_with_len i left)) n ≡ unwrap_or (first p i (drop i (supply_rows n cells))) (length (supply_rows n cells))
  unfolding first
  try-range zero i e = rw (rows_end n cells i (omega arith)) (sym (supply-length n cells))
  try-range (suc left) i e =
      let more = try-range left (i + 1) (omega arith) in
      rw (rows_next n cells i (omega arith)) (try-one (passes i) i _ _ _ (rw (← add-one i) more))

  pub first-tried : (r : Option ℕ) → r ≡ find passes (range_with_len 0 n) → unwrap_or r n ≡ unwrap_or (first p 0 (supply_rows n cells)) (length (supply_rows n cells))
  first-tried r e = ap (λ o. unwrap_or o n) e ∙ try-range n 0 (omega arith)

-- tests that agree find the same, and a test that nothing passes finds nothing
first-agree :
    (p q : SupplyRow → Bool) → ((r : SupplyRow) → p r ≡ q r) → (k : ℕ) (rows : List SupplyRow) → first p k rows ≡ first q k rows
unfolding first
first-agree p q h k [] = refl
first-agree p q h k (r ∷ rows) = rw (h r, first-agree p q h (suc k) rows)

first-nothing :
    (p : SupplyRow → Bool) → ((r : SupplyRow) → p r ≡ false) → (k : ℕ) (rows : List SupplyRow) → first p k rows ≡ None
unfolding first
first-nothing p h k [] = refl
first-nothing p h k (r ∷ rows) = rw (h r) (first-nothing p h (suc k) rows)

module _ (cutoff need n : ℕ) (cells : List ℕ) where
  -- the first of the rows of the clearing cost is the clearing row
  pub first-clears :
      (q : SupplyRow) → ((r : SupplyRow) → clears cutoff need (supply_rows n cells) r ≡ eligible_at cutoff q r) →
      first_at cutoff q (supply_rows n cells) ≡ clearing cutoff need (supply_rows n cells)
  unfolding first_at clearing
  first-clears q h = rw (first-agree (clears cutoff need (supply_rows n cells)) (eligible_at cutoff q) h 0 (supply_rows n cells))

  pub none-clears :
      ((r : SupplyRow) → clears cutoff need (supply_rows n cells) r ≡ false) → n ≡ clearing cutoff need (supply_rows n cells)
  unfolding clearing
  none-clears h =
      rw (first-nothing (clears cutoff need (supply_rows n cells)) h 0 (supply_rows n cells)) (sym (supply-length n cells))
