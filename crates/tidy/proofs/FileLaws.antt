-- Laws of the three calls, one for each way through the code: what reading refuses, and what is copied. Assumes nothing.
use Rattle.std.specs.Prelude.{Err, None, Ok, Option, Result, Some}
use Rattle.checking.specs.declared.supply_file.Supplied.{Supplied}
use Prim.Native.Nat.{ℕ}
use mathlib.Core.Path.{◌≡◌, refl, sym, ◌∙◌}
use mathlib.Core.Bool.{true, false}
use mathlib.Core.List.{List, [], ◌∷◌}
use lib.Dec.{leb}
use lib.ListN.{length}
use Rattle.base.specs.Search.{first_of}
use Rattle.base.specs.Text.{written}
use Rattle.base.specs.promises.Writing.{Wrote}
use Rattle.base.proofs.FirstLaws.{first-of-one, first-of-part, first-of-rest}
use Rattle.base.proofs.Searches.{first-of-none}
use Rattle.csv_text.proofs.Decides.{read-file}
use Rattle.tables.specs.Reading.{refusal}
use Rattle.tables.specs.Refusals.{bare_refusal}
use Rattle.tables.specs.declared.constraint.ConstraintRow.{ConstraintRow}
use Rattle.tables.specs.declared.files.File.{File}
use Rattle.tables.specs.declared.files.File.TheVariants.{Constraint, Supply, Schedules}
use Rattle.tables.specs.declared.files.Refusal.{Refusal}
use Rattle.tables.proofs.RefusalLaws.{unless-broken, unless-kept}
use Rattle.checking.specs.Files.{schedules_of, alone_refusals}
use Rattle.checking.specs.promises.Alone.{constraint_checked, SupplyChecked, SchedulesChecked}
use Rattle.checking.proofs.RuleLaws.{rows-answered, refused-answered}
use Rattle.checking.proofs.StepLaws.{row-answered, constraint-answered, counts-answered, supply-answered}
use Rattle.tidy.specs.Tidy.{tidy_of, short_for_tidy, tidy_refusals, tidying, tidied}
use Rattle.tidy.specs.promises.Copying.{copied}
use Rattle.tidy.specs.promises.Tidies.{Tidies, Copies}
use Rattle.tidy.proofs.CopyLaws.{copied-records}
use Rattle.tidy.proofs.RecordLaws.{regular-file, tidy-records, plain-records}

-- a text that is to be written: 30, or written
module _ (text buffer : List ℕ) where
  refused-tidying : {o : Option Refusal} {x : Refusal} → o ≡ Some x → Tidies (tidying text buffer o) buffer (Err x)
  unfolding tidying
  refused-tidying e = rw e (record { tells = refl; counts = refl; bytes = refl })

  pub short-buffer :
      leb (length text) (length buffer) ≡ false →
      Tidies (tidying text buffer (short_for_tidy text (length buffer))) buffer (Err (bare_refusal 30))
  unfolding short_for_tidy
  short-buffer e = refused-tidying (unless-broken _ 30 e)

  pub text-written :
      leb (length text) (length buffer) ≡ true → {count : ℕ} {new : List ℕ} → Wrote text count buffer new →
      Tidies (tidying text buffer (short_for_tidy text (length buffer))) new (Ok count)
  unfolding short_for_tidy tidying written
  text-written e w =
      rw (unless-kept (leb (length text) (length buffer)) 30 e)
      (record { tells = refl; counts = w.counted; bytes = w.written })

-- a file
module _ (f : File) (s buffer : List ℕ) where
  -- that reading refuses
  file-refused : {x : Refusal} → first_of (alone_refusals f s) ≡ Some x → Tidies (tidied f s buffer) buffer (Err x)
  unfolding tidied tidy_refusals
  file-refused {x} e = refused-tidying (tidy_of f s) buffer (first-of-part (alone_refusals f s) _ x e)

  -- and one that it doesn't refuse, copied
  file-copied :
      {new : List ℕ} {r : Result ℕ Refusal} → first_of (alone_refusals f s) ≡ None → refusal f s ≡ None →
      Copies s buffer new r → Tidies (tidied f s buffer) new r
  unfolding tidied tidy_refusals
  file-copied passed read w =
      let tidy : copied s ≡ tidy_of f s =
      copied-records (read-file s (regular-file f s read)) (plain-records f s read) ∙ sym (tidy-records f s read)
      in
      rw (first-of-rest (alone_refusals f s) (short_for_tidy (tidy_of f s) (length buffer) ∷ []) passed, first-of-one (short_for_tidy (tidy_of f s) (length buffer)), ← tidy) w

-- the three readers, by what they answer
module _ (s buffer : List ℕ) where
  module _ {r : Result ConstraintRow Refusal} (checked : r ≡ constraint_checked s) where
    pub constraint-refused : {x : Refusal} → r ≡ Err x → Tidies (tidied Constraint s buffer) buffer (Err x)
    unfolding constraint_checked
    constraint-refused e = file-refused Constraint s buffer (constraint-answered _ s (sym checked ∙ e))

    pub constraint-copied :
        {row : ConstraintRow} {new : List ℕ} {t : Result ℕ Refusal} → r ≡ Ok row → Copies s buffer new t → Tidies (tidied Constraint s buffer) new t
    unfolding constraint_checked alone_refusals
    constraint-copied e w =
        let passed = (row-answered _ s (sym checked ∙ e)).0 in
        file-copied Constraint s buffer passed (first-of-none (refusal Constraint s) _ passed).0 w

  module _ (cells us : List ℕ) {r : Result Supplied Refusal} (checked : SupplyChecked s cells us r) where
    pub supply-refused : {x : Refusal} → r ≡ Err x → Tidies (tidied Supply s buffer) buffer (Err x)
    supply-refused e = file-refused Supply s buffer (supply-answered _ s (sym checked.answers ∙ e))

    pub supply-copied :
        {k : Supplied} {new : List ℕ} {t : Result ℕ Refusal} → r ≡ Ok k → Copies s buffer new t → Tidies (tidied Supply s buffer) new t
    unfolding alone_refusals
    supply-copied e w =
        let passed = (counts-answered _ s (sym checked.answers ∙ e)).0 in
        file-copied Supply s buffer passed (first-of-none (refusal Supply s) _ passed).0 w

  module _ (cells links : List ℕ) {r : Result ℕ Refusal} (checked : SchedulesChecked (alone_refusals Schedules s) (schedules_of s) cells links r) where
    pub schedules-refused : {x : Refusal} → r ≡ Err x → Tidies (tidied Schedules s buffer) buffer (Err x)
    schedules-refused e = file-refused Schedules s buffer (refused-answered _ _ (sym checked.answers ∙ e))

    pub schedules-copied :
        {n : ℕ} {new : List ℕ} {t : Result ℕ Refusal} → r ≡ Ok n → Copies s buffer new t → Tidies (tidied Schedules s buffer) new t
    unfolding alone_refusals
    schedules-copied e w =
        let passed = (rows-answered _ _ (sym checked.answers ∙ e)).0 in
        file-copied Schedules s buffer passed (first-of-none (refusal Schedules s) _ passed).0 w
