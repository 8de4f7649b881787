-- Laws of rows that are changed in a run of cells, one after the other: a cell stored in one row leaves the others as they were.
-- Assumes nothing.
use Prim.Native.Nat.{ℕ, zero, suc, ◌+◌, ◌*◌, ◌≤◌, ◌<◌}
use mathlib.Core.Path.{◌≡◌, refl, ◌∙◌, ap}
use mathlib.Core.Logic.{⊎_elim}
use mathlib.Core.List.{List, [], ◌∷◌}
use native.Mathlib.Omega.{arith}
use native.Mathlib.Nat.{mul-le-mul, le_refl, suc-mul}
use lib.ListN.{length, get_or, set, drop}
use lib.Seq.{get_or-set_other}
use Rattle.base.proofs.Lists.{drop-end}
use Rattle.base.proofs.Tests.{eq-or-ne, lt-or-ge}

-- the cells of an earlier row stand before those of a later one
rows_apart : (w k i : ℕ) → k < i → k * w + w ≤ i * w
rows_apart w k i h = rw (← suc-mul k w) (mul-le-mul h (le_refl w))

-- a cell stored in column j of row i of w cells each, and one of another row
pub cell-kept :
    (w : ℕ) (cells : List ℕ) (i j v : ℕ) → j < w → (k c : ℕ) → c < w → (k ≡ i → ⊥) →
    get_or (set cells (i * w + j) v) (k * w + c) 0 ≡ get_or cells (k * w + c) 0
cell-kept w cells i j v j-in k c c-in other = get_or-set_other cells (i * w + j) (k * w + c) v 0 apart
  where
    apart : k * w + c ≡ i * w + j → ⊥
    apart e =
        ⊎_elim
        (λ (h : k < i). omega (arith, rows_apart w k i h))
        (λ (h : i ≤ k). omega (arith, rows_apart w i k (omega arith)))
        (lt-or-ge k i)

-- of n rows, each as a view of the run has it, the first i are changed and the others are as they were
module _ {A : Type 0} (view : List ℕ → ℕ → A) (change : ℕ → A → A) (n : ℕ) (old : List ℕ) where
  pub record Changing (new : List ℕ) (i : ℕ) : Type 0 where
    pub upto : i ≤ n
    pub same_length : length new ≡ length old
    pub done : (j : ℕ) → j < i → view new j ≡ change j (view old j)
    pub kept : (j : ℕ) → i ≤ j → view new j ≡ view old j

  pub changing-none : Changing old 0
  changing-none =
      record {
        upto = omega arith;
        same_length = refl;
        done = λ (j : ℕ) (h : j < 0). absurd (omega arith);
        kept = λ (j : ℕ) (h : 0 ≤ j). refl;
      }

  -- row i is changed next
  pub changing-next :
      (new next : List ℕ) (i : ℕ) → Changing new i → i < n → length next ≡ length new →
      view next i ≡ change i (view new i) → ((j : ℕ) → (j ≡ i → ⊥) → view next j ≡ view new j) → Changing next (i + 1)
  changing-next new next i so_far h long changed others =
      record {
        upto = omega arith;
        same_length = long ∙ so_far.same_length;
        done = λ (j : ℕ) (f : j < i + 1). ⊎_elim (here j) (λ (e : j ≡ i → ⊥). others j e ∙ so_far.done j (omega arith)) (eq-or-ne j i);
        kept = λ (j : ℕ) (f : i + 1 ≤ j). others j (omega arith) ∙ so_far.kept j (omega arith);
      }
    where
      here : (j : ℕ) → j ≡ i → view next j ≡ change j (view old j)
      here j e = rw e (changed ∙ ap (change i) (so_far.kept i (omega arith)))

  -- all are: the rows are what is wanted, row by row
  module _
      (new : List ℕ) (rows : List A) (long : length rows ≡ n)
      (next : (j : ℕ) → j < n → drop j rows ≡ view new j ∷ drop (j + 1) rows) (wanted : ℕ → List A) (none_left : wanted n ≡ [])
      (more : (j : ℕ) → j < n → wanted j ≡ change j (view old j) ∷ wanted (j + 1))
    where
      pub changed-rows : ((j : ℕ) → j < n → view new j ≡ change j (view old j)) → rows ≡ wanted 0
      changed-rows each = from n 0 (omega arith)
        where
          from : (m j : ℕ) → m + j ≡ n → drop j rows ≡ wanted j
          from zero j e =
              let last : j ≡ n = omega arith in
              rw (drop-end j rows (omega arith), last, none_left)
          from (suc m) j e = rw (next j (omega arith), more j (omega arith), each j (omega arith), from m (j + 1) (omega arith))

  pub changing-over :
      (new : List ℕ) (i : ℕ) → Changing new i → n ≤ i → (rows : List A) → length rows ≡ n →
      ((j : ℕ) → j < n → drop j rows ≡ view new j ∷ drop (j + 1) rows) → (wanted : ℕ → List A) → wanted n ≡ [] →
      ((j : ℕ) → j < n → wanted j ≡ change j (view old j) ∷ wanted (j + 1)) → rows ≡ wanted 0
  changing-over new i all h rows long next wanted none_left more =
      changed-rows new rows long next wanted none_left more (λ (j : ℕ) (f : j < n). all.done j (omega arith))
