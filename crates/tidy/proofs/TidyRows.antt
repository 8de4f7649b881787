-- The rows of a file that is not refused are such that the tidy file of them is not refused either, and has just those rows.
-- Assumes nothing.
use Rattle.std.specs.Prelude.{None}
use Prim.Native.Nat.{ℕ, ◌≤◌, ◌<◌}
use mathlib.Core.Path.{◌≡◌, refl, ap₂}
use mathlib.Core.List.{List, [], ◌∷◌, map}
use native.Mathlib.Omega.{arith}
use lib.ListN.{length, length-map}
use Rattle.base.specs.Search.{first_of, All, all_none, all_more}
use Rattle.base.specs.Text.{together}
use Rattle.base.proofs.Searches.{first-of-none}
use Rattle.csv_text.specs.Grammar.{File as Grammar-as-File}
use Rattle.csv_text.proofs.Computing.{reading_all}
use Rattle.tables.specs.Table.{Column, table, header, constraint_columns, supply_columns, schedules_columns, curves_columns, parents_columns}
use Rattle.tables.specs.Values.{cells}
use Rattle.tables.specs.Reading.{refusal}
use Rattle.tables.specs.declared.files.File.{File}
use Rattle.tables.specs.declared.files.File.TheVariants.{Constraint, Supply, Schedules, Curves, Parents}
use Rattle.tables.specs.promises.Ranges.{PermittedCells}
use Rattle.tables.specs.promises.RowCells.{RowsOf}
use Rattle.tables.proofs.Accepted.{accepted}
use Rattle.tables.proofs.Computing.{table_reading_all, table_all}
use Rattle.tables.proofs.Written as Written
use Rattle.checking.specs.Files.{rows_as_cells, or_header, alone_refusals}
use Rattle.tidy.specs.Tidy.{shown_row, tidy_text}
use Rattle.tidy.proofs.PlainFiles.{Plain, plain-file}
use Rattle.tidy.proofs.ShownLaws.{shown-cells, shown-text, header-text}

-- rows of cells that a file may have
pub record Allowed (f : File) (rows : List (List ℕ)) : Type 0 where
  pub fewest : (table f).fewest_rows ≤ length rows
  pub most : length rows ≤ (table f).most_rows
  pub permitted : All (PermittedCells (table f).columns) rows

pub read-allowed : (f : File) (s : List ℕ) → refusal f s ≡ None → Allowed f (rows_as_cells f s)
unfolding rows_as_cells
read-allowed f s e =
    let a = accepted f s e in
    record {
      fewest = rw length-map a.fewest;
      most = rw length-map a.most;
      permitted = a.permitted;
    }

-- curves and parents of no bytes have the rows of their header alone: none
pub header-rows : (f : File) (s : List ℕ) → rows_as_cells f (or_header f s) ≡ rows_as_cells f s
unfolding rows_as_cells or_header reading_all table_reading_all table_all
header-rows Constraint [] = refl
header-rows Supply [] = refl
header-rows Schedules [] = refl
header-rows Curves [] = refl
header-rows Parents [] = refl
header-rows f (b ∷ s) = refl

with-header : (f : File) (s : List ℕ) → refusal f (or_header f s) ≡ None → Allowed f (rows_as_cells f s)
with-header f s e = rw (header-rows f s) at (read-allowed f (or_header f s) e)

pub alone-allowed : (f : File) (s : List ℕ) → first_of (alone_refusals f s) ≡ None → Allowed f (rows_as_cells f s)
unfolding alone_refusals
alone-allowed Constraint s e = read-allowed Constraint s (first-of-none (refusal Constraint s) _ e).0
alone-allowed Supply s e = read-allowed Supply s (first-of-none (refusal Supply s) _ e).0
alone-allowed Schedules s e = read-allowed Schedules s (first-of-none (refusal Schedules s) _ e).0
alone-allowed Curves s e = with-header Curves s (first-of-none (refusal Curves (or_header Curves s)) _ e).0
alone-allowed Parents s e = with-header Parents s (first-of-none (refusal Parents (or_header Parents s)) _ e).0

-- no record of a file is without fields
any-column : (f : File) → 0 < length (table f).columns
unfolding constraint_columns supply_columns schedules_columns curves_columns parents_columns
any-column Constraint = omega arith
any-column Supply = omega arith
any-column Schedules = omega arith
any-column Curves = omega arith
any-column Parents = omega arith

module _ (f : File) where
  plain-header : Plain (header f)
  unfolding header
  plain-header = record { some-field = rw length-map (any-column f); texts = header-text f }

  plain_row : {xs : List ℕ} → PermittedCells (table f).columns xs → Plain (shown_row (table f).columns xs)
  plain_row p = record { some-field = rw (Written.good (shown-cells p)).count (any-column f); texts = shown-text f p }

  plain_rows : {rows : List (List ℕ)} → All (PermittedCells (table f).columns) rows → All Plain (map (shown_row (table f).columns) rows)
  plain_rows all_none = all_none
  plain_rows (all_more p ps) = all_more (plain_row p) (plain_rows ps)

-- shown rows, read again
module _ {cs : List Column} where
  shown-rows : {rows : List (List ℕ)} → All (PermittedCells cs) rows → RowsOf cs (map (shown_row cs) rows) (together (λ (xs : List ℕ). xs) rows)
  unfolding together
  shown-rows all_none = RowsOf.none
  shown-rows (all_more p ps) = RowsOf.more (shown-cells p) (shown-rows ps)

  rows-again : {rows : List (List ℕ)} → All (PermittedCells cs) rows → map (cells cs) (map (shown_row cs) rows) ≡ rows
  rows-again all_none = refl
  rows-again (all_more p ps) = ap₂ ◌∷◌ (Written.good (shown-cells p)).read (rows-again ps)

module _ (f : File) {rows : List (List ℕ)} (a : Allowed f rows) where
  records-written : Grammar-as-File (tidy_text f rows) (header f ∷ map (shown_row (table f).columns) rows)
  unfolding tidy_text
  records-written = plain-file (plain-header f) (plain_rows f a.permitted)

  fewest : (table f).fewest_rows ≤ length (map (shown_row (table f).columns) rows)
  fewest = rw length-map a.fewest

  most : length (map (shown_row (table f).columns) rows) ≤ (table f).most_rows
  most = rw length-map a.most

  pub not-refused : refusal f (tidy_text f rows) ≡ None
  not-refused = Written.not-refused f records-written (shown-rows a.permitted) fewest most

  pub same_rows : rows_as_cells f (tidy_text f rows) ≡ rows
  unfolding rows_as_cells
  same_rows = rw (Written.values-are f records-written (shown-rows a.permitted) fewest most) (rows-again a.permitted)
