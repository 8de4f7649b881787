-- Laws of rows out of a flat run of cells: the row at a place, and its cells by their places in the run. Assumes nothing.
use Prim.Native.Nat.{ℕ, zero, suc, ◌+◌, ◌*◌, ◌<◌}
use mathlib.Core.Path.{◌≡◌, refl, ◌∙◌, ap}
use mathlib.Core.List.{List, ◌∷◌}
use native.Mathlib.Omega.{arith}
use native.Mathlib.Nat.{suc-mul, zero-mul, le_of_suc-le-suc, not-suc-le-zero}
use native.Mathlib.Numerals.{add-one}
use lib.ListN.{length, get_or, take, drop, length-map}
use lib.Seq.{drop-drop, get_or-drop, get_or-take}
use Rattle.base.proofs.Lists.{drop-map}
use Rattle.tables.specs.Rows.{supply_row, schedule_row, point_row, parent_row}
use Rattle.tables.specs.promises.FlatRows.{rows_of, supply_rows, schedule_rows, point_rows, parent_rows}
use Rattle.cells.specs.promises.Views.{supply_at, schedule_at, point_at, parent_at, answer_at, answer_row, answer_rows}

pub rows-length : (w n : ℕ) (cs : List ℕ) → length (rows_of w n cs) ≡ n
unfolding rows_of
rows-length w zero cs = refl
rows-length w (suc n) cs = ap suc (rows-length w n (drop w cs))

module _ (w : ℕ) where
  -- the row at a place, and the rows behind it
  pub row-at :
      (n : ℕ) (cs : List ℕ) (i : ℕ) → i < n →
      drop i (rows_of w n cs) ≡ take w (drop (i * w) cs) ∷ drop (suc i) (rows_of w n cs)
  unfolding rows_of
  row-at zero cs i h = absurd (not-suc-le-zero h)
  row-at (suc n) cs zero h = rw zero-mul
  row-at (suc n) cs (suc i) h =
      let further : w + i * w ≡ suc i * w = rw (suc-mul i w) (omega arith) in
      row-at n (drop w cs) i (le_of_suc-le-suc h) ∙ rw (drop-drop (i * w) w cs, further)

  pub cell_at : (cs : List ℕ) (i j : ℕ) → j < w → get_or (take w (drop (i * w) cs)) j 0 ≡ get_or cs (i * w + j) 0
  cell_at cs i j h = get_or-take w (drop (i * w) cs) j 0 h ∙ get_or-drop (i * w) cs j 0

-- the rows of supply
supply-cells : (cs : List ℕ) (i : ℕ) → supply_row (take 5 (drop (i * 5) cs)) ≡ supply_at cs i
supply-cells cs i =
    rw (
      cell_at 5 cs i 0 (omega arith),
      cell_at 5 cs i 1 (omega arith),
      cell_at 5 cs i 2 (omega arith),
      cell_at 5 cs i 3 (omega arith),
      cell_at 5 cs i 4 (omega arith),
    )

pub supply-next :
    (n : ℕ) (cs : List ℕ) (i : ℕ) → i < n → drop i (supply_rows n cs) ≡ supply_at cs i ∷ drop (i + 1) (supply_rows n cs)
unfolding supply_rows
supply-next n cs i h =
    rw (add-one i, drop-map supply_row i (rows_of 5 n cs), row-at 5 n cs i h, drop-map supply_row (suc i) (rows_of 5 n cs), supply-cells cs i)

pub supply-length : (n : ℕ) (cs : List ℕ) → length (supply_rows n cs) ≡ n
unfolding supply_rows
supply-length n cs = length-map (rows_of 5 n cs) supply_row ∙ rows-length 5 n cs

-- the rows of schedules
schedule-cells : (cs : List ℕ) (i : ℕ) → schedule_row (take 9 (drop (i * 9) cs)) ≡ schedule_at cs i
schedule-cells cs i =
    rw (
      cell_at 9 cs i 0 (omega arith),
      cell_at 9 cs i 1 (omega arith),
      cell_at 9 cs i 2 (omega arith),
      cell_at 9 cs i 3 (omega arith),
      cell_at 9 cs i 4 (omega arith),
      cell_at 9 cs i 5 (omega arith),
      cell_at 9 cs i 6 (omega arith),
      cell_at 9 cs i 7 (omega arith),
      cell_at 9 cs i 8 (omega arith),
    )

pub schedule-next :
    (n : ℕ) (cs : List ℕ) (i : ℕ) → i < n → drop i (schedule_rows n cs) ≡ schedule_at cs i ∷ drop (i + 1) (schedule_rows n cs)
unfolding schedule_rows
schedule-next n cs i h =
    rw (
      add-one i,
      drop-map schedule_row i (rows_of 9 n cs),
      row-at 9 n cs i h,
      drop-map schedule_row (suc i) (rows_of 9 n cs),
      schedule-cells cs i,
    )

pub schedule-length : (n : ℕ) (cs : List ℕ) → length (schedule_rows n cs) ≡ n
unfolding schedule_rows
schedule-length n cs = length-map (rows_of 9 n cs) schedule_row ∙ rows-length 9 n cs

-- the points of curves
point-cells : (cs : List ℕ) (i : ℕ) → point_row (take 5 (drop (i * 5) cs)) ≡ point_at cs i
point-cells cs i =
    rw (
      cell_at 5 cs i 0 (omega arith),
      cell_at 5 cs i 1 (omega arith),
      cell_at 5 cs i 2 (omega arith),
      cell_at 5 cs i 3 (omega arith),
      cell_at 5 cs i 4 (omega arith),
    )

pub point-next :
    (n : ℕ) (cs : List ℕ) (i : ℕ) → i < n → drop i (point_rows n cs) ≡ point_at cs i ∷ drop (i + 1) (point_rows n cs)
unfolding point_rows
point-next n cs i h =
    rw (add-one i, drop-map point_row i (rows_of 5 n cs), row-at 5 n cs i h, drop-map point_row (suc i) (rows_of 5 n cs), point-cells cs i)

pub point-length : (n : ℕ) (cs : List ℕ) → length (point_rows n cs) ≡ n
unfolding point_rows
point-length n cs = length-map (rows_of 5 n cs) point_row ∙ rows-length 5 n cs

-- the rows of parents
parent-cells : (cs : List ℕ) (i : ℕ) → parent_row (take 2 (drop (i * 2) cs)) ≡ parent_at cs i
parent-cells cs i = rw (cell_at 2 cs i 0 (omega arith), cell_at 2 cs i 1 (omega arith))

pub parent-next :
    (n : ℕ) (cs : List ℕ) (i : ℕ) → i < n → drop i (parent_rows n cs) ≡ parent_at cs i ∷ drop (i + 1) (parent_rows n cs)
unfolding parent_rows
parent-next n cs i h =
    rw (add-one i, drop-map parent_row i (rows_of 2 n cs), row-at 2 n cs i h, drop-map parent_row (suc i) (rows_of 2 n cs), parent-cells cs i)

pub parent-length : (n : ℕ) (cs : List ℕ) → length (parent_rows n cs) ≡ n
unfolding parent_rows
parent-length n cs = length-map (rows_of 2 n cs) parent_row ∙ rows-length 2 n cs

-- the rows of an answer
answer-cells : (cs : List ℕ) (i : ℕ) → answer_row (take 7 (drop (i * 7) cs)) ≡ answer_at cs i
answer-cells cs i =
    rw (
      cell_at 7 cs i 0 (omega arith),
      cell_at 7 cs i 1 (omega arith),
      cell_at 7 cs i 2 (omega arith),
      cell_at 7 cs i 3 (omega arith),
      cell_at 7 cs i 4 (omega arith),
      cell_at 7 cs i 5 (omega arith),
      cell_at 7 cs i 6 (omega arith),
    )

pub answer-next :
    (n : ℕ) (cs : List ℕ) (i : ℕ) → i < n → drop i (answer_rows n cs) ≡ answer_at cs i ∷ drop (i + 1) (answer_rows n cs)
unfolding answer_rows
answer-next n cs i h =
    rw (
      add-one i,
      drop-map answer_row i (rows_of 7 n cs),
      row-at 7 n cs i h,
      drop-map answer_row (suc i) (rows_of 7 n cs),
      answer-cells cs i,
    )

pub answer-length : (n : ℕ) (cs : List ℕ) → length (answer_rows n cs) ≡ n
unfolding answer_rows
answer-length n cs = length-map (rows_of 7 n cs) answer_row ∙ rows-length 7 n cs
