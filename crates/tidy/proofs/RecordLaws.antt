-- A file that reading doesn't refuse is its header and then rows in which no field needs quotes, so its tidy file is its records,
-- written. Assumes nothing.
use Rattle.std.specs.Prelude.{None, Option, Some}
use Prim.Native.Nat.{ℕ}
use mathlib.Core.Path.{◌≡◌, refl, sym, ap, ap₂}
use mathlib.Core.Bool.{Bool, true, false, cond}
use mathlib.Core.List.{List, [], ◌∷◌, map}
use native.Mathlib.Omega.{arith}
use lib.Dec.{eqb}
use lib.ListN.{length}
use borrow.Author.Tests.{eqb-true}
use Rattle.base.specs.Search.{All, all_none, all_more}
use Rattle.base.specs.Text.{same, together}
use Rattle.base.proofs.Searches.{first-none-all}
use Rattle.base.proofs.Tests.{and-fst, and-snd, false-true, same-eq}
use Rattle.csv_text.specs.Records.{rfc4180, records}
use Rattle.csv_text.specs.promises.Plain.{all_texts}
use Rattle.tables.specs.Table.{table, header, record_text, width}
use Rattle.tables.specs.Values.{cells, well_formed}
use Rattle.tables.specs.Reading.{rows, same_fields, misfit, malformed, irregular, refusal}
use Rattle.tables.specs.declared.files.File.{File}
use Rattle.tables.proofs.Accepted.{parts, shape, fitting}
use Rattle.checking.specs.Files.{rows_as_cells}
use Rattle.tidy.specs.Tidy.{shown_row, tidy_text, tidy_of}
use Rattle.tidy.proofs.ShownLaws.{cells-shown, values-text, header-text}

same-fields-eq : (vs ws : List (List ℕ)) → same_fields vs ws ≡ true → vs ≡ ws
unfolding same_fields
same-fields-eq [] [] e = refl
same-fields-eq [] (w ∷ ws) e = false-true e
same-fields-eq (v ∷ vs) [] e = false-true e
same-fields-eq (v ∷ vs) (w ∷ ws) e =
    ap₂ ◌∷◌ (same-eq v w (and-fst (same v w) (same_fields vs ws) e)) (same-fields-eq vs ws (and-snd (same v w) (same_fields vs ws) e))

none-cond : (t : Bool) (o : Option ℕ) → cond t o (Some 0) ≡ None → t ≡ true
none-cond true o e = refl
none-cond false o e = let z : ◌≡◌ {A = ℕ} 0 1 = cc in absurd (omega arith)

module _ (f : File) where
  -- rows of well-formed fields, one for each column: what their cells are shown as, and that they need no quotes
  rows-shown :
      {rs : List (List (List ℕ))} → All (λ (vs : List (List ℕ)). eqb (width f) (length vs) ≡ true) rs →
      All (λ (vs : List (List ℕ)). well_formed (table f).columns vs ≡ true) rs →
      (map (shown_row (table f).columns) (map (cells (table f).columns) rs) ≡ rs)
      × All (λ (vs : List (List ℕ)). all_texts vs ≡ true) rs
  unfolding width
  rows-shown all_none all_none = (refl, all_none)
  rows-shown (all_more {x = vs} p ps) (all_more q qs) =
      let count = sym (eqb-true (width f) (length vs) p) in
      let more = rows-shown ps qs in
      (ap₂ ◌∷◌ (cells-shown (table f).columns vs count q) more.0, all_more (values-text f vs count q) more.1)

module _ (f : File) (s : List ℕ) (e : refusal f s ≡ None) where
  pub regular-file : rfc4180 s ≡ true
  unfolding irregular
  regular-file = none-cond (rfc4180 s) None (shape f s e).0

  -- the header, and then the rows
  headed : records s ≡ header f ∷ rows s
  unfolding records rows misfit
  headed =
      let same = none-cond (same_fields _ (header f)) _ (shape f s e).1 in
      ap (λ vs. vs ∷ rows s) (same-fields-eq _ (header f) same)

  shown-again :
      (map (shown_row (table f).columns) (map (cells (table f).columns) (rows s)) ≡ rows s)
      × All (λ (vs : List (List ℕ)). all_texts vs ≡ true) (rows s)
  unfolding malformed
  shown-again =
      rows-shown f (fitting f s e)
      (first-none-all (well_formed (table f).columns) 1 (rows s) (parts f s e).1)

  pub tidy-records : tidy_of f s ≡ together record_text (records s)
  unfolding tidy_of tidy_text rows_as_cells
  tidy-records = rw (headed, shown-again.0)

  pub plain-records : All (λ (vs : List (List ℕ)). all_texts vs ≡ true) (records s)
  plain-records = rw (headed) (all_more (header-text f) shown-again.1)
