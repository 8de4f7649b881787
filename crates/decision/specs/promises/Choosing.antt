-- A schedule chosen for each unit that has been tested, and the rows of the answer, as the code lays them down. Assumes
-- nothing.
use Rattle.std.specs.Prelude.{ℕ, ◌≡◌, Bool, true, ◌&&◌, not, List, [], ◌∷◌, ◌++◌, map, length, drop, Option, Some, None, Result, Ok, Err}
use Rattle.base.specs.Search.{find}
use Rattle.tables.specs.Rows.{ScheduleRow, letter_of}
use Rattle.tables.specs.declared.answer.AnswerRow.{AnswerRow}
use Rattle.tables.specs.declared.files.Kind.{Kind}
use Rattle.schedules.specs.Schedules.{own}
use Rattle.choice.specs.Choosing.{choice}
use Rattle.choice.specs.Schedules.{schedules, on_cost, has_any}
use Rattle.choice.specs.declared.choices.Choice.{Choice}
use Rattle.choice.specs.declared.kinds.Kinds.TheVariants.{OnlyC}
use Rattle.cells.specs.promises.Views.{answer_width, answer_rows}
use Rattle.outcome.specs.Day.{RunningUnit, kind_running}
use Rattle.outcome.specs.Decision.{chosen_or, lacks_cost}
use Rattle.decision.specs.declared.deciding.NoCostSchedule.{NoCostSchedule}
use Rattle.decision.specs.declared.testing.UnitTest.{UnitTest}

-- 21, of a unit with these rows on a day that has it running on a kind, or not
unfoldable pub lacks_cost_on : Option Kind → ℕ → List ScheduleRow → Bool
lacks_cost_on day h rows = on_cost day && not (has_any OnlyC (schedules h rows))

-- a row from its parts
abbrev pub row_from : UnitTest → Choice → AnswerRow
row_from t chosen =
    record {
      unit = t.unit;
      supplier = t.supplier;
      verdict = t.verdict;
      left = t.left;
      schedule = chosen.schedule;
      kind = letter_of chosen.kind;
      cost = chosen.cost;
    }

-- the cells of a row
abbrev pub answer_cells : AnswerRow → List ℕ
answer_cells r = r.unit ∷ r.supplier ∷ r.verdict ∷ r.left ∷ r.schedule ∷ r.kind ∷ r.cost ∷ []

-- a row chosen: unless 21 names the unit, it is laid down
pub record RowChosen (h : ℕ) (rows : List ScheduleRow) (day : Option Kind) (t : UnitTest) (old new : List ℕ) (r : Bool) : Type 0 where
  pub answers : r ≡ not (lacks_cost_on day h rows)
  pub laid : r ≡ true → new ≡ answer_cells (row_from t (chosen_or (choice day t.exposed h rows))) ++ drop answer_width old
  pub same_length : length new ≡ length old

-- every unit is decided, or 21 names one
abbrev pub answer_of : Option ℕ → Result (Unit {0}) NoCostSchedule
answer_of None = Ok tt
answer_of (Some u) = Err (record { unit = u })

abbrev pub tested_units : List UnitTest → List ℕ
tested_units ts = map (λ (t : UnitTest). t.unit) ts

module _ (h : ℕ) (scheduled : List ScheduleRow) (running : List RunningUnit) where
  -- a tested unit's row
  unfoldable pub row_chosen : UnitTest → AnswerRow
  row_chosen t = row_from t (chosen_or (choice (kind_running t.unit running) t.exposed h (own t.unit scheduled)))

  -- all rows chosen, of units with these tests
  pub record ChoosesRows (ts : List UnitTest) (k : ℕ) (new : List ℕ) (r : Result (Unit {0}) NoCostSchedule) : Type 0 where
    pub answers : r ≡ answer_of (find (lacks_cost h scheduled running) (tested_units ts))
    pub rows : r ≡ Ok tt → answer_rows k new ≡ map row_chosen ts
