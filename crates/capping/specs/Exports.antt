-- What the study, the preview, the release, the test and tidying promise host programs, who know an answer by its numbers: document 01's number,
-- file and place, or zeros, and 0 for P and 1 for F. Assumes nothing.
use Rattle.std.specs.Prelude.{ℕ, ◌<◌, ◌≡◌, ◌↔◌, cond, List, [], ◌∷◌, eqb, take, None, Option, Some}
use Rattle.tables.specs.Refusals.{bare_refusal, told}
use Rattle.tables.specs.declared.answer.AnswerRow.{AnswerRow}
use Rattle.tables.specs.declared.files.File.{File}
use Rattle.tables.specs.declared.files.File.TheVariants.{Constraint, Supply, Schedules}
use Rattle.tables.specs.declared.files.Refusal.{Refusal}
use Rattle.pivotal.specs.Test.{F, verdict_letter, TestOutcome}
use Rattle.checking.specs.Files.{Files}
use Rattle.outcome.specs.Day.{DayView, release_refusal, released}
use Rattle.outcome.specs.Preview.{Previewing}
use Rattle.outcome.specs.Right.{Right, RightFor}
use Rattle.outcome.specs.Study.{Outcome}
use Rattle.tidy.specs.Longest.{longest_tidy}
use Rattle.tidy.specs.Tidy.{Tidying, tidying, tidied}
use Rattle.capping.specs.Days.{day_in, day_cells}

-- the cells of a report
abbrev pub reported : Refusal → List ℕ
reported r = r.number ∷ r.file ∷ r.place ∷ []

-- a call that writes: the result, every byte of the buffer and every cell of the report are what the definition gives
pub record WritingTold (told : Refusal) (written : ℕ) (buffer new report : List ℕ) (r : ℕ) : Type 0 where
  pub count : r ≡ written
  pub bytes : new ≡ buffer
  pub reports : report ≡ reported told

abbrev pub StudyTold : Outcome → List ℕ → List ℕ → ℕ → Type 0
StudyTold o new report r = WritingTold o.told o.count o.buffer new report r

-- demand 3, where bytes were written: those are right, and no others are
abbrev pub ToldRight : DayView → Files → List ℕ → ℕ → Type 0
ToldRight d f new r = 0 < r → (text : List ℕ) → (text ≡ take r new) ↔ Right d f text

-- the cells after a call: those of the day afterwards, and where it is refused not one has changed
unfoldable pub cells_after : List ℕ → DayView → Refusal → List ℕ
cells_after cells after r = cond (eqb r.number 0) (day_cells after) cells

pub record DayKept (cells new : List ℕ) (after : DayView) (r : Refusal) : Type 0 where
  pub held : new ≡ cells_after cells after r
  -- and so they mean that day
  pub meant : day_in new ≡ after

-- a study of a day that is kept in cells, with this outcome
pub record DayStudied (o : Outcome) (cells kept new report : List ℕ) (r : ℕ) : Type 0 where
  pub tells : StudyTold o new report r
  pub day-after : DayKept cells kept o.day o.told

-- the cells of a row
abbrev pub row_cells : AnswerRow → List ℕ
row_cells r = r.unit ∷ r.supplier ∷ r.verdict ∷ r.left ∷ r.schedule ∷ r.kind ∷ r.cost ∷ []

-- the lent cells after a preview: those of the row, and where it is refused not one has changed
abbrev pub cells_shown : List ℕ → Option AnswerRow → List ℕ
cells_shown cells None = cells
cells_shown cells (Some r) = row_cells r

-- a preview: 0, or the number of the refusal
pub record PreviewTold (o : Previewing) (cells new report : List ℕ) (r : ℕ) : Type 0 where
  pub number : r ≡ o.told.number
  pub row : new ≡ cells_shown cells o.row
  pub reports : report ≡ reported o.told

-- demand 3 on the row, where one is shown: its cells are right for the unit, and no others are
abbrev pub ShownRight : DayView → Files → ℕ → List ℕ → ℕ → Type 0
ShownRight d f u new r = r ≡ 0 → (row : AnswerRow) → (row_cells row ≡ new) ↔ RightFor d f u row

-- a release from a day that is kept in cells: 0, or the number of the refusal
pub record DayReleased (cells kept : List ℕ) (u : ℕ) (report : List ℕ) (r : ℕ) : Type 0 where
  pub number : r ≡ (told (release_refusal (day_in cells) u)).number
  pub reports : report ≡ reported (told (release_refusal (day_in cells) u))
  pub day-after : DayKept cells kept (released (day_in cells) u) (told (release_refusal (day_in cells) u))

-- 0 for P and 1 for F, or the number of the refusal
unfoldable pub test_number : TestOutcome → ℕ
test_number o = cond (eqb o.told.number 0) (cond (eqb o.verdict (verdict_letter F)) 1 0) o.told.number

-- what is left, or what stood there where the test is refused
unfoldable pub test_left : TestOutcome → ℕ → ℕ
test_left o old = cond (eqb o.told.number 0) o.left old

-- a file is named by its number
unfoldable pub file_numbered : ℕ → Option File
file_numbered n =
    cond (eqb n 1) (Some Constraint) (cond (eqb n 2) (Some Supply) (cond (eqb n 3) (Some Schedules) None))

-- where there is no such file, no header is its header: 2, with no file to name
abbrev pub tidied_as : Option File → List ℕ → List ℕ → Tidying
tidied_as None s buffer = tidying [] buffer (Some (bare_refusal 2))
tidied_as (Some f) s buffer = tidied f s buffer

-- how long a buffer for a tidy file has to be, 0 where there is no such file
abbrev pub longest_as : Option File → ℕ
longest_as None = 0
longest_as (Some f) = longest_tidy f

abbrev pub TidyTold : Tidying → List ℕ → List ℕ → ℕ → Type 0
TidyTold o new report r = WritingTold o.told o.count o.buffer new report r
