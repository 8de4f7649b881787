-- Document 02, F-1, of a file that 1 to 6 pass on its own: its tidy file is not refused either and has the same rows, two files have
-- the same tidy file just where they have the same rows, and a tidy file is its own. Assumes nothing.
use Rattle.std.specs.Prelude.{None}
use Prim.Native.Nat.{ℕ}
use mathlib.Core.Path.{◌≡◌, refl, sym, ◌∙◌, ap}
use mathlib.Core.Logic.{◌↔◌}
use mathlib.Core.List.{List}
use Rattle.base.specs.Search.{first_of}
use Rattle.base.specs.Text.{together}
use Rattle.base.proofs.FirstLaws.{first-of-one, first-of-later}
use Rattle.base.proofs.Searches.{first-of-none}
use Rattle.tables.specs.Table.{header, joined, constraint_columns, supply_columns, schedules_columns, curves_columns, parents_columns}
use Rattle.tables.specs.Reading.{refusal}
use Rattle.tables.specs.declared.files.File.{File}
use Rattle.tables.specs.declared.files.File.TheVariants.{Constraint, Supply, Schedules, Curves, Parents}
use Rattle.checking.specs.Files.{rows_as_cells, supply_of, schedules_of, or_header, parents_of, alone_refusals}
use Rattle.tidy.specs.Tidy.{tidy_text, tidy_of}
use Rattle.tidy.proofs.TidyRows.{alone-allowed, header-rows, not-refused, same_rows}

-- "Reading its output yields the same rows"
pub tidy-rows : (f : File) (s : List ℕ) → first_of (alone_refusals f s) ≡ None → rows_as_cells f (tidy_of f s) ≡ rows_as_cells f s
unfolding tidy_of
tidy-rows f s e = same_rows f (alone-allowed f s e)

tidy-read : (f : File) (s : List ℕ) → first_of (alone_refusals f s) ≡ None → refusal f (tidy_of f s) ≡ None
unfolding tidy_of
tidy-read f s e = not-refused f (alone-allowed f s e)

-- a tidy file has bytes
some_bytes : (f : File) (s : List ℕ) → or_header f (tidy_of f s) ≡ tidy_of f s
unfolding or_header tidy_of tidy_text together header joined constraint_columns supply_columns schedules_columns curves_columns parents_columns
some_bytes Constraint s = refl
some_bytes Supply s = refl
some_bytes Schedules s = refl
some_bytes Curves s = refl
some_bytes Parents s = refl

pub tidy-accepted : (f : File) (s : List ℕ) → first_of (alone_refusals f s) ≡ None → first_of (alone_refusals f (tidy_of f s)) ≡ None
unfolding alone_refusals supply_of schedules_of parents_of
tidy-accepted Constraint s e = first-of-one (refusal Constraint (tidy_of Constraint s)) ∙ tidy-read Constraint s e
tidy-accepted Supply s e =
    first-of-later (refusal Supply (tidy_of Supply s)) _ (tidy-read Supply s e)
    ∙ rw (tidy-rows Supply s e) (first-of-none (refusal Supply s) _ e).1
tidy-accepted Schedules s e =
    first-of-later (refusal Schedules (tidy_of Schedules s)) _ (tidy-read Schedules s e)
    ∙ rw (tidy-rows Schedules s e) (first-of-none (refusal Schedules s) _ e).1
tidy-accepted Curves s e =
    rw (some_bytes Curves s) (first-of-one (refusal Curves (tidy_of Curves s)) ∙ tidy-read Curves s e)
tidy-accepted Parents s e =
    rw (some_bytes Parents s)
    (first-of-later (refusal Parents (tidy_of Parents s)) _ (tidy-read Parents s e)
    ∙ rw (tidy-rows Parents s e, ← header-rows Parents s) (first-of-none (refusal Parents (or_header Parents s)) _ e).1)

-- "two such files of one kind have the same tidy bytes exactly when their rows agree"
pub tidy-same :
    (f : File) (s t : List ℕ) → first_of (alone_refusals f s) ≡ None → first_of (alone_refusals f t) ≡ None →
    (tidy_of f s ≡ tidy_of f t) ↔ (rows_as_cells f s ≡ rows_as_cells f t)
unfolding tidy_of
tidy-same f s t d e =
    (λ same. sym (tidy-rows f s d) ∙ ap (rows_as_cells f) same ∙ tidy-rows f t e, λ same. ap (tidy_text f) same)

pub tidy-again : (f : File) (s : List ℕ) → first_of (alone_refusals f s) ≡ None → tidy_of f (tidy_of f s) ≡ tidy_of f s
unfolding tidy_of
tidy-again f s e = ap (tidy_text f) (tidy-rows f s e)
