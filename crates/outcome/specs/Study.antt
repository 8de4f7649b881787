-- Document 01: the whole outcome of a study, for any day, any files and any lent buffer: the refusals as one list, "24; then
-- file by file 1, 2, 4, 3, 5, 6, 7, each over the whole file; then 8, 9, 20, 21, 22, 10", with those of document 02's files
-- among them, the day afterwards and every byte of the buffer. Assumes nothing.
use Rattle.std.specs.Prelude.{ℕ, not, List, [], ◌∷◌, ◌++◌, map, leb, length, None, Option, Some, option_map}
use Rattle.base.specs.Search.{first_of}
use Rattle.base.specs.Text.{written}
use Rattle.tables.specs.Rows.{SupplyRow, ScheduleRow, kind_of}
use Rattle.tables.specs.declared.answer.AnswerRow.{AnswerRow}
use Rattle.tables.specs.declared.constraint.ConstraintRow.{ConstraintRow}
use Rattle.tables.specs.declared.files.File.TheVariants.{Schedules}
use Rattle.tables.specs.declared.files.Refusal.{Refusal}
use Rattle.tables.specs.Refusals.{refused, unless, bare_refusal}
use Rattle.checking.specs.Files.{Files, constraint_of, supply_of, scheduled_of, groups_of, check_refusals}
use Rattle.supply.specs.Supply.{units}
use Rattle.outcome.specs.Answer.{answer_text}
use Rattle.outcome.specs.Day.{RunningUnit, DayView, most_running, day_formed, earlier, would_run, committed}
use Rattle.outcome.specs.Decision.{decided, no_cost_schedule}

-- what an answer's row has running
unfoldable pub chosen : AnswerRow → RunningUnit
chosen r = record { unit = r.unit; schedule = r.schedule; kind = kind_of r.kind }

-- what a study gives: number, file and place as they are told, how many bytes are written, the day, and every byte of the buffer
pub record Outcome : Type 0 where
  pub told : Refusal
  pub count : ℕ
  pub day : DayView
  pub buffer : List ℕ

-- "A refused call returns the day it was given and changes no byte of the answer buffer." "An accepted study sets the hour and
-- makes each of its units running on the chosen schedule; every other running unit stays as it was."
unfoldable pub outcome : DayView → ℕ → List AnswerRow → List ℕ → Option Refusal → Outcome
outcome d h rows buffer (Some r) = record { told = r; count = 0; day = d; buffer = buffer }
outcome d h rows buffer None =
    record {
      told = bare_refusal 0;
      count = length (answer_text rows);
      day = committed h (map chosen rows) d;
      buffer = written (answer_text rows) buffer;
    }

-- 22: "more than 64 units would run"
unfoldable pub too_many_running : DayView → List ℕ → Option Refusal
too_many_running d us = unless (leb (would_run us d.running) most_running) 22

-- 10: "answer buffer shorter than the answer"
unfoldable pub short_buffer : List AnswerRow → ℕ → Option Refusal
short_buffer rows room = unless (leb (length (answer_text rows)) room) 10

-- the refusals that go by the rows of the files: 20, 21, 22
unfoldable pub rows_refusals : DayView → ConstraintRow → List SupplyRow → List ScheduleRow → List (Option Refusal)
rows_refusals d c supply scheduled =
    unless (not (earlier c.hour d.hour)) 20
    ∷ option_map (refused 21 Schedules) (no_cost_schedule c.hour supply scheduled d.running)
    ∷ too_many_running d (units supply)
    ∷ []

module _ (d : DayView) (f : Files) where
  -- the rows of the answer
  unfoldable pub study_rows : List AnswerRow
  study_rows =
      decided (constraint_of f.constraint) (groups_of f) (scheduled_of f) d.running (supply_of f.supply)

  -- the answer file
  unfoldable pub answer_file : List ℕ
  answer_file = answer_text study_rows

  -- every refusal but 10, which alone goes by the buffer
  unfoldable pub decision_refusals : List (Option Refusal)
  decision_refusals =
      unless (day_formed d) 24
      ∷ check_refusals f
      ++ rows_refusals d (constraint_of f.constraint) (supply_of f.supply) (scheduled_of f)

  unfoldable pub study_refusals : ℕ → List (Option Refusal)
  study_refusals room = decision_refusals ++ (short_buffer study_rows room ∷ [])

  unfoldable pub decision_refusal : Option Refusal
  decision_refusal = first_of decision_refusals

  unfoldable pub study_refusal : ℕ → Option Refusal
  study_refusal room = first_of (study_refusals room)

  unfoldable pub studied : List ℕ → Outcome
  studied buffer = outcome d (constraint_of f.constraint).hour study_rows buffer (study_refusal (length buffer))
