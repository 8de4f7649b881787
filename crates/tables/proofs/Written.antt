-- A file that is its header and then rows whose fields are well-formed is not refused, and its rows are those. Assumes nothing.
use Rattle.std.specs.Prelude.{None}
use Prim.Native.Nat.{ℕ, suc, ◌≤◌}
use mathlib.Core.Path.{◌≡◌, refl, sym, ap}
use mathlib.Core.Bool.{true, not}
use mathlib.Core.List.{List, [], ◌∷◌, ◌++◌}
use lib.Dec.{eqb}
use lib.ListN.{length}
use borrow.Author.Tests.{eq-eqb, le-leb}
use Rattle.base.specs.Search.{first, first_of}
use Rattle.base.proofs.Tests.{same_refl}
use Rattle.csv_text.specs.Bytes.{CR, LF}
use Rattle.csv_text.specs.Grammar.{Record, File as Grammar-as-File}
use Rattle.csv_text.specs.Records.{records}
use Rattle.csv_text.proofs.Decides.{file-read}
use Rattle.csv_text.specs.promises.Plain.{all_text, all_texts}
use Rattle.csv_text.proofs.Written.{plainly, plain-field, side_by_side, fields-record}
use Rattle.tables.specs.Table.{Column, table, header, joined, header_text, width, constraint_columns, supply_columns, schedules_columns, curves_columns, parents_columns}
use Rattle.tables.specs.Values.{is_some, cells, well_formed}
use Rattle.tables.specs.Reading.{rows, same_fields, misfit, miscount, malformed, misshapen, refusal}
use Rattle.tables.specs.declared.files.File.{File}
use Rattle.tables.specs.declared.files.File.TheVariants.{Constraint, Supply, Schedules, Curves, Parents}
use Rattle.tables.specs.promises.Answers.{all_cells}
use Rattle.tables.specs.promises.RowCells.{CellsOf, RowsOf}
use Rattle.tables.proofs.ReadLaws.{shape-right}

-- a header's text is the record of the columns' names
pub plain-header : (f : File) (r : List ℕ) → Record (header_text f ++ r) (header f) (CR ∷ LF ∷ r)
unfolding header_text joined header constraint_columns supply_columns schedules_columns curves_columns parents_columns side_by_side plainly all_texts all_text
plain-header Constraint r = fields-record plainly plain-field _ _ _ refl
plain-header Supply r = fields-record plainly plain-field _ _ _ refl
plain-header Schedules r = fields-record plainly plain-field _ _ _ refl
plain-header Curves r = fields-record plainly plain-field _ _ _ refl
plain-header Parents r = fields-record plainly plain-field _ _ _ refl

same_names : (vs : List (List ℕ)) → same_fields vs vs ≡ true
unfolding same_fields
same_names [] = refl
same_names (v ∷ vs) = simp (same_refl v, same_names vs)

-- what holds of the values of a row that has cells
pub record Good (cs : List Column) (vs : List (List ℕ)) (xs : List ℕ) : Type 0 where
  pub count : length vs ≡ length cs
  pub formed : well_formed cs vs ≡ true
  pub read : cells cs vs ≡ xs

pub good : {cs : List Column} {vs : List (List ℕ)} {xs : List ℕ} → CellsOf cs vs xs → Good cs vs xs
unfolding well_formed cells is_some
good CellsOf.none = record { count = refl; formed = refl; read = refl }
good (CellsOf.more {x = x} e w) =
    let g = good w in
    record { count = ap suc g.count; formed = simp (e, g.formed); read = rw (e, g.read) }

pub all-cells : {cs : List Column} {vs : List (List (List ℕ))} {xs : List ℕ} → RowsOf cs vs xs → all_cells cs vs ≡ xs
unfolding all_cells
all-cells RowsOf.none = refl
all-cells (RowsOf.more w l) = rw ((good w).read, all-cells l)

module _ (f : File) where
  rows_fit :
      {vs : List (List (List ℕ))} {xs : List ℕ} (k : ℕ) → RowsOf (table f).columns vs xs →
      first (λ (v : List (List ℕ)). not (eqb (width f) (length v))) k vs ≡ None
  unfolding first width
  rows_fit k RowsOf.none = refl
  rows_fit k (RowsOf.more w l) = simp (eq-eqb _ _ (sym (good w).count), rows_fit (suc k) l)

  rows-formed :
      {vs : List (List (List ℕ))} {xs : List ℕ} (k : ℕ) → RowsOf (table f).columns vs xs →
      first (λ (v : List (List ℕ)). not (well_formed (table f).columns v)) k vs ≡ None
  unfolding first
  rows-formed k RowsOf.none = refl
  rows-formed k (RowsOf.more w l) = simp ((good w).formed, rows-formed (suc k) l)

  -- a file of the header and some values, as many as the table permits, each with its cell
  module _
      {s xs : List ℕ} {vs : List (List (List ℕ))} (file : Grammar-as-File s (header f ∷ vs)) (read : RowsOf (table f).columns vs xs)
      (fewest : (table f).fewest_rows ≤ length vs) (most : length vs ≤ (table f).most_rows) where
    pub values-are : rows s ≡ vs
    unfolding rows
    values-are = rw (file-read file).1

    pub well-shaped : misshapen f s ≡ None
    well-shaped = shape-right f s (file-read file).0 fit counts
      where
        fit : misfit f (records s) ≡ None
        fit = unfold misfit in rw (file-read file).1 (simp (same_names (header f)) (rows_fit 1 read))

        counts : miscount f (length (rows s)) ≡ None
        counts =
            unfold miscount in
            rw values-are (simp (le-leb (table f).fewest_rows (length vs) fewest, le-leb (length vs) (table f).most_rows most))

    pub well-formed : malformed f (rows s) ≡ None
    unfolding malformed
    well-formed = rw values-are (rows-formed 1 read)

    pub not-refused : refusal f s ≡ None
    unfolding refusal first_of
    not-refused = simp (well-shaped, well-formed)
