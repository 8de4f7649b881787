-- No tidy file is longer than the longest: field by field, none is wider than that of its column's widest cell, and rows are no more
-- than the table permits. Assumes nothing.
use Rattle.std.specs.Prelude.{None}
use Prim.Native.Nat.{ℕ, zero, suc, ◌+◌, ◌-◌, ◌≤◌}
use mathlib.Core.Path.{◌≡◌, refl}
use mathlib.Core.Bool.{Bool, true, false, cond, not}
use mathlib.Core.List.{List, [], ◌∷◌, map}
use native.Mathlib.Omega.{arith}
use lib.Dec.{leb, ltb}
use lib.ListN.{length, replicate, length-append}
use borrow.Author.Tests.{leb-true, ltb-true, ltb-false}
use Rattle.base.specs.Search.{first, All, all_none, all_more}
use Rattle.base.specs.Text.{together}
use Rattle.base.proofs.Searches.{first-none-all}
use Rattle.csv_text.specs.Bytes.{COMMA, CR, LF}
use Rattle.numeral.specs.Numeral.{digits}
use Rattle.numeral.proofs.Laws.{length-longer}
use Rattle.tables.specs.Table.{Column, table, header, joined, record_text, constraint_columns, supply_columns, schedules_columns, curves_columns, parents_columns}
use Rattle.tables.specs.declared.columns.Form.{Form}
use Rattle.tables.specs.declared.columns.Form.TheVariants.{Numeral as numeral, Signed as signed, Letter as letter}
use Rattle.tables.specs.Reading.{refusal}
use Rattle.tables.specs.Values.{MINUS}
use Rattle.tables.specs.declared.files.File.{File}
use Rattle.tables.specs.declared.files.File.TheVariants.{Constraint, Supply, Schedules, Curves, Parents}
use Rattle.tables.specs.promises.Ranges.{Permits, PermittedCells, none as no_cell, more as one_Cell}
use Rattle.tidy.specs.Longest.{widest_as, widest, longest_tidy}
use Rattle.tidy.specs.Tidy.{shown_as, shown, shown_row, tidy_text, tidy_of}
use Rattle.tidy.proofs.TidyRows.{Allowed, read-allowed}

-- whether a signed column goes no further above zero than below it
abbrev low_as : Form → ℕ → ℕ → Bool
low_as numeral lo hi = true
low_as signed lo hi = leb hi lo
low_as letter lo hi = true

abbrev low : Column → Bool
low c = low_as c.form c.minimum c.maximum

low-columns : (f : File) → All (λ (c : Column). low c ≡ true) (table f).columns
unfolding first constraint_columns supply_columns schedules_columns curves_columns parents_columns
low-columns f = first-none-all low 0 (table f).columns (found f)
  where
    found : (f : File) → first (λ (c : Column). not (low c)) 0 (table f).columns ≡ None
    found Constraint = refl
    found Supply = refl
    found Schedules = refl
    found Curves = refl
    found Parents = refl

-- a field

signed-longest : (lo hi x : ℕ) → hi ≤ lo → x ≤ lo + hi → length (shown_as signed lo x) ≤ length (shown_as signed lo 0)
unfolding shown_as
signed-longest lo hi x l h = go (ltb x lo) (ltb 0 lo) refl refl
  where
    go :
        (t u : Bool) → ltb x lo ≡ t → ltb 0 lo ≡ u →
        length (cond t (MINUS ∷ digits (lo - x)) (digits (x - lo))) ≤ length (cond u (MINUS ∷ digits (lo - 0)) (digits (0 - lo)))
    go true true e f = omega (arith, length-longer (lo - x) (lo - 0) (omega arith))
    go true false e f = absurd (omega (arith, ltb-true x lo e, ltb-false 0 lo f))
    go false true e f = omega (arith, length-longer (x - lo) (lo - 0) (omega arith))
    go false false e f = length-longer (x - lo) (0 - lo) (omega (arith, ltb-false 0 lo f))

form-longest :
    (f : Form) (lo hi x : ℕ) → low_as f lo hi ≡ true → Permits f lo hi x →
    length (shown_as f lo x) ≤ length (shown_as f lo (widest_as f hi))
unfolding shown_as
form-longest numeral lo hi x t p = length-longer x hi p.1
form-longest signed lo hi x t p = signed-longest lo hi x (leb-true hi lo t) p
form-longest letter lo hi x t p = omega arith

field-longest :
    (c : Column) (x : ℕ) → low c ≡ true → Permits c.form c.minimum c.maximum x →
    length (shown c x) ≤ length (shown c (widest c))
unfolding shown
field-longest c x t p = form-longest c.form c.minimum c.maximum x t p

-- a record

fields-longest :
    {cs : List Column} {xs : List ℕ} → All (λ (c : Column). low c ≡ true) cs → PermittedCells cs xs →
    length (joined (shown_row cs xs)) ≤ length (joined (shown_row cs (map widest cs)))
unfolding joined shown_row
fields-longest ts no_cell = omega arith
fields-longest (all_more t ts) (one_Cell {c = c} {x = x} p no_cell) = field-longest c x t p
fields-longest (all_more t ts) (one_Cell {c = c} {cs = cs} {x = x} {xs = xs} p (one_Cell q ps)) =
    omega (
      arith,
      length-append (shown c x) (COMMA ∷ joined (shown_row cs xs)),
      length-append (shown c (widest c)) (COMMA ∷ joined (shown_row cs (map widest cs))),
      field-longest c x t p,
      fields-longest ts (one_Cell q ps),
    )

record-length : (vs : List (List ℕ)) → length (record_text vs) ≡ length (joined vs) + 2
record-length vs = length-append (joined vs) (CR ∷ LF ∷ [])

-- records
module _ (cs : List Column) (ts : All (λ (c : Column). low c ≡ true) cs) where
  records-longest :
      (n : ℕ) {rows : List (List ℕ)} → All (PermittedCells cs) rows → length rows ≤ n →
      length (together record_text (map (shown_row cs) rows)) ≤ length (together record_text (map (shown_row cs) (replicate n (map widest cs))))
  unfolding together
  records-longest n all_none few = omega arith
  records-longest zero (all_more p ps) few = absurd (omega arith)
  records-longest (suc n) {rows = xs ∷ rows} (all_more p ps) few =
      omega (
        arith,
        length-append (record_text (shown_row cs xs)) (together record_text (map (shown_row cs) rows)),
        length-append (record_text (shown_row cs (map widest cs))) (together record_text (map (shown_row cs) (replicate n (map widest cs)))),
        record-length (shown_row cs xs),
        record-length (shown_row cs (map widest cs)),
        fields-longest ts p,
        records-longest n ps (omega arith),
      )

pub rows-longest : (f : File) {rows : List (List ℕ)} → Allowed f rows → length (tidy_text f rows) ≤ longest_tidy f
unfolding longest_tidy tidy_text together
rows-longest f {rows} a =
    let cs = (table f).columns in
    let widest_rows = replicate (table f).most_rows (map widest cs) in
    omega (
      arith,
      length-append (record_text (header f)) (together record_text (map (shown_row cs) rows)),
      length-append (record_text (header f)) (together record_text (map (shown_row cs) widest_rows)),
      records-longest cs (low-columns f) (table f).most_rows a.permitted a.most,
    )

pub tidy-longest : (f : File) (s : List ℕ) → refusal f s ≡ None → length (tidy_of f s) ≤ longest_tidy f
unfolding tidy_of
tidy-longest f s e = rows-longest f (read-allowed f s e)
