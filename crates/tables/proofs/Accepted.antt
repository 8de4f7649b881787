-- What holds of a file that reading doesn't refuse: its rows are as many as the table permits, each within the ranges, and
-- they are what stands in the cells that reading laid down. Assumes nothing.
use Rattle.std.specs.Prelude.{None, Option, Some, option_map}
use Prim.Native.Nat.{ℕ, ◌≤◌}
use mathlib.Core.Path.{◌≡◌, refl, sym, ◌∙◌, ap}
use mathlib.Core.Bool.{Bool, true, false, cond, not, ◌&&◌}
use mathlib.Core.List.{List, [], ◌∷◌, ◌++◌, map, append_assoc}
use native.Mathlib.Omega.{arith}
use lib.Dec.{eqb, leb}
use lib.ListN.{length, drop}
use lib.Seq.{take_at, drop_at}
use borrow.Author.Tests.{leb-true, eqb-true}
use Rattle.base.specs.Search.{first, All, all_none, all_more}
use Rattle.base.proofs.Searches.{first-of-none, option-map-none, first-none-all}
use Rattle.base.proofs.Tests.{and-fst, and-snd}
use Rattle.csv_text.specs.Records.{records}
use Rattle.tables.specs.promises.Ranges.{PermittedCells}
use Rattle.tables.specs.Reading.{rows, same_fields, misfit, miscount, malformed, irregular, misshapen, refusal}
use Rattle.tables.specs.Table.{Column, table, header, width}
use Rattle.tables.specs.Values.{cells, well_formed}
use Rattle.tables.specs.declared.files.File.{File}
use Rattle.tables.specs.Refusals.{refused}
use Rattle.tables.specs.promises.Answers.{laid, all_cells}
use Rattle.tables.specs.promises.FlatRows.{rows_of}
use Rattle.tables.proofs.Permitted.{row-permitted}
use Rattle.tables.proofs.RowLaws.{cells-length}

-- a row with a field for each column
record Fit (cs : List Column) (vs : List (List ℕ)) : Type 0 where
  count : length vs ≡ length cs
  formed : well_formed cs vs ≡ true

all_fit : (w : ℕ) (cs : List Column) (rs : List (List (List ℕ))) → w ≡ length cs →
    All (λ (vs : List (List ℕ)). eqb w (length vs) ≡ true) rs → All (λ (vs : List (List ℕ)). well_formed cs vs ≡ true) rs → All (Fit cs) rs
all_fit w cs [] e all_none all_none = all_none
all_fit w cs (vs ∷ rs) e (all_more p ps) (all_more q qs) =
    all_more (record { count = sym (eqb-true w (length vs) p) ∙ e; formed = q }) (all_fit w cs rs e ps qs)

all-permitted : (cs : List Column) (rs : List (List (List ℕ))) → All (Fit cs) rs → All (PermittedCells cs) (map (cells cs) rs)
all-permitted cs [] all_none = all_none
all-permitted cs (vs ∷ rs) (all_more p ps) = all_more (row-permitted cs vs p.count p.formed) (all-permitted cs rs ps)

-- rows of cells, found again in the run that they were laid down in
rows-viewed :
    (w : ℕ) (cs : List Column) (rs : List (List (List ℕ))) (more : List ℕ) → w ≡ length cs → All (Fit cs) rs →
    rows_of w (length rs) (all_cells cs rs ++ more) ≡ map (cells cs) rs
unfolding rows_of all_cells
rows-viewed w cs [] more e all_none = refl
rows-viewed w cs (vs ∷ rs) more e (all_more p ps) =
    let n : length (cells cs vs) ≡ w = cells-length cs vs p.count ∙ sym e in
    rw (append_assoc (cells cs vs) (all_cells cs rs) more, take_at (cells cs vs) (all_cells cs rs ++ more) w n, drop_at (cells cs vs) (all_cells cs rs ++ more) w n)
    (ap (λ (l : List (List ℕ)). cells cs vs ∷ l) (rows-viewed w cs rs more e ps))

pub record Accepted (f : File) (s : List ℕ) : Type 0 where
  pub fewest : (table f).fewest_rows ≤ length (rows s)
  pub most : length (rows s) ≤ (table f).most_rows
  pub permitted : All (PermittedCells (table f).columns) (map (cells (table f).columns) (rows s))
  pub lays : laid f s ≡ all_cells (table f).columns (rows s)
  pub viewed : (more : List ℕ) → rows_of (width f) (length (rows s)) (laid f s ++ more) ≡ map (cells (table f).columns) (rows s)

module _ (f : File) (s : List ℕ) (e : refusal f s ≡ None) where
  -- refusal by refusal
  pub parts : (misshapen f s ≡ None) × (malformed f (rows s) ≡ None)
  unfolding refusal
  parts =
      let a = first-of-none (misshapen f s) _ e in
      (a.0, option-map-none (refused 3 f) (malformed f (rows s)) (first-of-none _ [] a.1).0)

  pub shape : (irregular s ≡ None) × (misfit f (records s) ≡ None) × (miscount f (length (rows s)) ≡ None)
  unfolding misshapen
  shape =
      let a = first-of-none (option_map (refused 1 f) (irregular s)) _ parts.0 in
      let b = first-of-none (option_map (refused 2 f) (misfit f (records s))) _ a.1 in
      let c = first-of-none (option_map (refused 4 f) (miscount f (length (rows s)))) [] b.1 in (
        option-map-none (refused 1 f) (irregular s) a.0,
        option-map-none (refused 2 f) (misfit f (records s)) b.0,
        option-map-none (refused 4 f) (miscount f (length (rows s))) c.0,
      )

  counted : ((table f).fewest_rows ≤ length (rows s)) × (length (rows s) ≤ (table f).most_rows)
  unfolding miscount
  counted = go (leb (table f).fewest_rows (length (rows s)) && leb (length (rows s)) (table f).most_rows) refl shape.2
    where
      go :
          (t : Bool) → (leb (table f).fewest_rows (length (rows s)) && leb (length (rows s)) (table f).most_rows) ≡ t →
          cond {A = Option ℕ} t None (Some 0) ≡ None → ((table f).fewest_rows ≤ length (rows s)) × (length (rows s) ≤ (table f).most_rows)
      go true q z = (
        leb-true _ _ (and-fst (leb (table f).fewest_rows (length (rows s))) (leb (length (rows s)) (table f).most_rows) q),
        leb-true _ _ (and-snd (leb (table f).fewest_rows (length (rows s))) (leb (length (rows s)) (table f).most_rows) q),
      )
      go false q z = let o : ◌≡◌ {A = ℕ} 0 1 = cc in absurd (omega arith)

  pub fitting : All (λ (vs : List (List ℕ)). eqb (width f) (length vs) ≡ true) (rows s)
  unfolding misfit rows
  fitting = go (records s) shape.1
    where
      go : (rs : List (List (List ℕ))) → misfit f rs ≡ None → All (λ (vs : List (List ℕ)). eqb (width f) (length vs) ≡ true) (drop 1 rs)
      go [] z = all_none
      go (r ∷ rs) z = same-header (same_fields r (header f)) z
        where
          same-header :
              (t : Bool) →
              cond t (first (λ (vs : List (List ℕ)). not (eqb (width f) (length vs))) 1 rs) (Some 0) ≡ None →
              All (λ (vs : List (List ℕ)). eqb (width f) (length vs) ≡ true) rs
          same-header true z = first-none-all (λ (vs : List (List ℕ)). eqb (width f) (length vs)) 1 rs z
          same-header false z = let o : ◌≡◌ {A = ℕ} 0 1 = cc in absurd (omega arith)

  fit : All (Fit (table f).columns) (rows s)
  unfolding malformed width
  fit = all_fit (width f) (table f).columns (rows s) refl fitting (first-none-all (well_formed (table f).columns) 1 (rows s) parts.1)

  lays : laid f s ≡ all_cells (table f).columns (rows s)
  unfolding laid
  lays = simp parts.0

  pub accepted : Accepted f s
  unfolding width
  accepted =
      record {
        fewest = counted.0;
        most = counted.1;
        permitted = all-permitted (table f).columns (rows s) fit;
        lays = lays;
        viewed = λ more. rw lays (rows-viewed (width f) (table f).columns (rows s) more refl fit);
      }
