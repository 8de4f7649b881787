-- Document 02, F-2: what a preview promises, for any day, any files and any unit's number. Assumes nothing.
use Rattle.std.specs.Prelude.{ℕ, ◌≡◌, ◌↔◌, Err, None, Ok, Option, Result, Some}
use Rattle.tables.specs.Refusals.{told_by}
use Rattle.tables.specs.declared.answer.AnswerRow.{AnswerRow}
use Rattle.tables.specs.declared.files.Refusal.{Refusal}
use Rattle.checking.specs.Files.{Files}
use Rattle.outcome.specs.Preview.{previewed}
use Rattle.outcome.specs.Right.{RightFor}
use Rattle.engine.specs.View.{view_of}
use Rattle.engine.specs.declared.day.Day.{Day}
use Rattle.engine.specs.declared.previewing.Previewed.{Previewed}

-- the row that is shown
abbrev pub row_shown : Result AnswerRow Refusal → Option AnswerRow
row_shown (Ok r) = Some r
row_shown (Err r) = None

pub record Previews (day : Day) (f : Files) (u : ℕ) (r : Previewed) : Type 0 where
  pub tells : told_by r.answer ≡ (previewed (view_of day) f u).told
  pub shows : row_shown r.answer ≡ (previewed (view_of day) f u).row
  -- the day that comes back is the very one that was given, the places that aren't counted too
  pub very-day : r.day ≡ day

-- demand 3 on the row: lay any row beside the one that is shown, and the two are equal exactly when it is right for the unit
abbrev pub PreviewsRight : Day → Files → ℕ → Previewed → Type 0
PreviewsRight day f u r =
    (told_by r.answer).number ≡ 0 → (row : AnswerRow) → (row_shown r.answer ≡ Some row) ↔ RightFor (view_of day) f u row
