-- Laws of the order of refusals: whatever deciding refuses comes first, and last 10 of a study and 31 of a preview. Assumes
-- nothing.
use Rattle.std.specs.Prelude.{None, Option, Some}
use Prim.Native.Nat.{ℕ, ◌≤◌}
use mathlib.Core.Path.{◌≡◌, refl, sym, ◌∙◌}
use lib.Dec.{leb}
use lib.ListN.{length}
use borrow.Author.Tests.{le-leb}
use Rattle.tables.specs.declared.files.Refusal.{Refusal}
use Rattle.tables.proofs.RefusalLaws.{unless-kept}
use Rattle.checking.specs.Files.{Files}
use Rattle.base.proofs.FirstLaws.{first-of-one, first-of-part, first-of-rest, first-of-parts-none}
use Rattle.outcome.specs.Answer.{answer_text}
use Rattle.outcome.specs.Day.{DayView}
use Rattle.outcome.specs.Preview.{not_supplied, preview_refusals, preview_refusal}
use Rattle.outcome.specs.Study.{
  short_buffer,
  study_rows,
  answer_file,
  decision_refusals,
  decision_refusal,
  study_refusals,
  study_refusal,
}

module _ (d : DayView) (f : Files) (room : ℕ) where
  pub refused-deciding : (e : Refusal) → decision_refusal d f ≡ Some e → study_refusal d f room ≡ Some e
  unfolding decision_refusal study_refusal study_refusals
  refused-deciding e is = first-of-part (decision_refusals d f) _ e is

  pub short-buffer-last : decision_refusal d f ≡ None → study_refusal d f room ≡ short_buffer (study_rows d f) room
  unfolding decision_refusal study_refusal study_refusals
  short-buffer-last ok = first-of-rest (decision_refusals d f) _ ok ∙ first-of-one (short_buffer (study_rows d f) room)

  pub accepted-deciding : study_refusal d f room ≡ None → decision_refusal d f ≡ None
  unfolding decision_refusal study_refusal study_refusals
  accepted-deciding ok = (first-of-parts-none (decision_refusals d f) _ ok).0

  holds-all : length (answer_file d f) ≤ room → short_buffer (study_rows d f) room ≡ None
  unfolding short_buffer answer_file
  holds-all h = unless-kept (leb (length (answer_text (study_rows d f))) room) 10 (le-leb _ _ h)

  -- a buffer that holds the answer makes no difference
  pub enough-room : (decision_refusal d f ≡ None → length (answer_file d f) ≤ room) → study_refusal d f room ≡ decision_refusal d f
  enough-room holds = go (decision_refusal d f) refl
    where
      go : (o : Option Refusal) → decision_refusal d f ≡ o → study_refusal d f room ≡ o
      go None e = short-buffer-last e ∙ holds-all (holds e)
      go (Some r) e = refused-deciding r e

module _ (d : DayView) (f : Files) (u : ℕ) where
  pub refused-both : (e : Refusal) → decision_refusal d f ≡ Some e → preview_refusal d f u ≡ Some e
  unfolding decision_refusal preview_refusal preview_refusals
  refused-both e is = first-of-part (decision_refusals d f) _ e is

  pub not-supplied-last : decision_refusal d f ≡ None → preview_refusal d f u ≡ not_supplied f u
  unfolding decision_refusal preview_refusal preview_refusals
  not-supplied-last ok = first-of-rest (decision_refusals d f) _ ok ∙ first-of-one (not_supplied f u)

  pub accepted-both : preview_refusal d f u ≡ None → (decision_refusal d f ≡ None) × (not_supplied f u ≡ None)
  unfolding decision_refusal preview_refusal preview_refusals
  accepted-both ok =
      let (decided, supplied) = first-of-parts-none (decision_refusals d f) _ ok in
      (decided, sym (first-of-one (not_supplied f u)) ∙ supplied)
