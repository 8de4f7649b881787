-- The files by their numbers, and from what tidying answers to the numbers that host programs see. Assumes nothing.
use Rattle.std.specs.Prelude.{Err, None, Result, Some}
use Prim.Native.Nat.{ℕ}
use mathlib.Core.Path.{◌≡◌, refl, ◌∙◌, ap}
use mathlib.Core.List.{List, []}
use borrow.Author.Tests.{ne_eqb}
use Rattle.tables.specs.Refusals.{bare_refusal, count_of, told_by}
use Rattle.tables.specs.declared.files.File.TheVariants.{Constraint, Supply, Schedules}
use Rattle.tables.specs.declared.files.Refusal.{Refusal}
use Rattle.tidy.specs.Tidy.{Tidying, tidying}
use Rattle.tidy.specs.promises.Tidies.{Tidies}
use Rattle.capping.specs.Exports.{reported, file_numbered, TidyTold}

-- the files by their numbers
module _ (n : ℕ) where
  pub is-constraint : n ≡ 1 → file_numbered n ≡ Some Constraint
  unfolding file_numbered
  is-constraint e = rw e

  pub is-supply : n ≡ 2 → file_numbered n ≡ Some Supply
  unfolding file_numbered
  is-supply e = rw e

  pub is-schedules : n ≡ 3 → file_numbered n ≡ Some Schedules
  unfolding file_numbered
  is-schedules e = rw e

  pub is-no-file : (n ≡ 1 → ⊥) → (n ≡ 2 → ⊥) → (n ≡ 3 → ⊥) → file_numbered n ≡ None
  unfolding file_numbered
  is-no-file c u h = rw (ne_eqb n 1 c, ne_eqb n 2 u, ne_eqb n 3 h)

pub no-such-file : (old : List ℕ) → Tidies (tidying [] old (Some (bare_refusal 2))) old (Err (bare_refusal 2))
unfolding tidying
no-such-file old = record { tells = refl; counts = refl; bytes = refl }

pub tidy-told :
    {o : Tidying} {new report : List ℕ} {w : Result ℕ Refusal} {t : Refusal} {r : ℕ} → Tidies o new w → t ≡ told_by w → report ≡ reported t →
    r ≡ count_of w → TidyTold o new report r
tidy-told w told stored counted =
    record { count = counted ∙ w.counts; bytes = w.bytes; reports = stored ∙ ap reported (told ∙ w.tells) }
