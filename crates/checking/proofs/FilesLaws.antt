-- Laws of files that were read: what reading answered, and what the rows in the lent cells are. Assumes nothing.
use Rattle.std.specs.Prelude.{Err, None, Ok, Option, Result, Some}
use Prim.Native.Nat.{ℕ}
use mathlib.Core.Path.{◌≡◌, refl, ◌∙◌, ap}
use mathlib.Core.List.{List, [], ◌∷◌, map}
use native.Mathlib.Omega.{arith}
use lib.ListN.{length, take, drop, length-map}
use lib.Seq.{get_or-take}
use Rattle.tables.specs.promises.Laying.{FileRead}
use Rattle.tables.specs.Reading.{rows, refusal}
use Rattle.tables.specs.Rows.{constraint_row, supply_row, schedule_row, point_row, parent_row}
use Rattle.tables.specs.Table.{width, table, constraint_columns, supply_columns, schedules_columns, curves_columns, parents_columns}
use Rattle.tables.specs.Values.{cells}
use Rattle.tables.specs.declared.files.File.{File}
use Rattle.tables.specs.declared.files.File.TheVariants.{Constraint, Supply, Schedules, Curves, Parents}
use Rattle.tables.specs.declared.files.Refusal.{Refusal}
use Rattle.tables.proofs.Accepted.{accepted}
use Rattle.tables.specs.promises.Answers.{reading, laid}
use Rattle.tables.specs.promises.FlatRows.{rows_of, supply_rows, schedule_rows, point_rows, parent_rows}
use Rattle.checking.specs.Files.{rows_as_cells, constraint_of, supply_of, schedules_of, or_header, curves_of, parents_of}

-- what reading a file answered
module _ (f : File) (s : List ℕ) where
  reading-none : refusal f s ≡ None → reading f s ≡ Ok (length (rows s))
  unfolding reading
  reading-none e = simp e

  reading-some : (x : Refusal) → refusal f s ≡ Some x → reading f s ≡ Err x
  unfolding reading
  reading-some x e = simp e

  pub was_read : {r : Result ℕ Refusal} {n : ℕ} → r ≡ reading f s → r ≡ Ok n → (refusal f s ≡ None) × (n ≡ length (rows s))
  was_read {r} {n} p q = go (refusal f s) refl
    where
      go : (o : Option Refusal) → refusal f s ≡ o → (refusal f s ≡ None) × (n ≡ length (rows s))
      go None e = (e, cc (reading-none e))
      go (Some x) e = let z : ◌≡◌ {A = ℕ} 0 1 = cc (reading-some x e) in absurd (omega arith)

  pub was-refused : {r : Result ℕ Refusal} {x : Refusal} → r ≡ reading f s → r ≡ Err x → refusal f s ≡ Some x
  was-refused {r} {x} p q = go (refusal f s) refl
    where
      go : (o : Option Refusal) → refusal f s ≡ o → refusal f s ≡ Some x
      go None e = let z : ◌≡◌ {A = ℕ} 0 1 = cc (reading-none e) in absurd (omega arith)
      go (Some y) e = cc (reading-some y e)

pub rows-count : (f : File) (s : List ℕ) → length (rows_as_cells f s) ≡ length (rows s)
unfolding rows_as_cells
rows-count f s = length-map (rows s) (cells (table f).columns)

pub supply-count : (s : List ℕ) → length (supply_of s) ≡ length (rows s)
unfolding supply_of
supply-count s = length-map (rows_as_cells Supply s) supply_row ∙ rows-count Supply s

pub schedules-count : (h : List ℕ) → length (schedules_of h) ≡ length (rows h)
unfolding schedules_of
schedules-count h = length-map (rows_as_cells Schedules h) schedule_row ∙ rows-count Schedules h

pub curves-count : (k : List ℕ) → length (curves_of k) ≡ length (rows (or_header Curves k))
unfolding curves_of
curves-count k = length-map (rows_as_cells Curves (or_header Curves k)) point_row ∙ rows-count Curves (or_header Curves k)

pub parents-count : (p : List ℕ) → length (parents_of p) ≡ length (rows (or_header Parents p))
unfolding parents_of
parents-count p = length-map (rows_as_cells Parents (or_header Parents p)) parent_row ∙ rows-count Parents (or_header Parents p)

-- a file of some bytes isn't taken for its header
pub some_bytes : (f : File) (s : List ℕ) → (length s ≡ 0 → ⊥) → or_header f s ≡ s
unfolding or_header
some_bytes f [] h = absurd (h refl)
some_bytes f (b ∷ s) h = refl

-- the rows that stand in the lent cells
viewed :
    (f : File) (s old new : List ℕ) (r : Result ℕ Refusal) → refusal f s ≡ None → FileRead f s old new r →
    rows_of (width f) (length (rows s)) new ≡ rows_as_cells f s
unfolding rows_as_cells
viewed f s old new r e w = rw w.lays ((accepted f s e).viewed (drop (length (laid f s)) old))

module _ (s old new : List ℕ) (r : Result ℕ Refusal) where
  pub supply-rows : refusal Supply s ≡ None → FileRead Supply s old new r → supply_rows (length (supply_of s)) new ≡ supply_of s
  unfolding supply_rows supply_of width supply_columns
  supply-rows e w = rw (supply-count s) (ap (map supply_row) (viewed Supply s old new r e w))

  pub schedule-rows : refusal Schedules s ≡ None → FileRead Schedules s old new r → schedule_rows (length (schedules_of s)) new ≡ schedules_of s
  unfolding schedule_rows schedules_of width schedules_columns
  schedule-rows e w = rw (schedules-count s) (ap (map schedule_row) (viewed Schedules s old new r e w))

  -- of a file of some bytes, which isn't taken for its header
  pub point-rows :
      or_header Curves s ≡ s → refusal Curves s ≡ None → FileRead Curves s old new r → point_rows (length (curves_of s)) new ≡ curves_of s
  unfolding point_rows curves_of width curves_columns
  point-rows same e w = rw (curves-count s, same) (ap (map point_row) (viewed Curves s old new r e w))

  pub parent-rows :
      or_header Parents s ≡ s → refusal Parents s ≡ None → FileRead Parents s old new r →
      parent_rows (length (parents_of s)) new ≡ parents_of s
  unfolding parent_rows parents_of width parents_columns
  parent-rows same e w = rw (parents-count s, same) (ap (map parent_row) (viewed Parents s old new r e w))

  one-row : refusal Constraint s ≡ None → length (rows s) ≡ 1
  one-row e = omega (arith, (accepted Constraint s e).fewest, (accepted Constraint s e).most)

  pub constraint-row : refusal Constraint s ≡ None → FileRead Constraint s old new r → constraint_row new ≡ constraint_of s
  unfolding constraint_of width constraint_columns rows_of
  constraint-row e w =
      let v : take 3 new ∷ [] ≡ rows_as_cells Constraint s = rw (one-row e) at (viewed Constraint s old new r e w) in
      rw (← v, get_or-take 3 new 0 0 (omega arith), get_or-take 3 new 1 0 (omega arith), get_or-take 3 new 2 0 (omega arith))
