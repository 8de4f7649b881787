-- What a study decides, as the code answers it and lays down its rows. Assumes nothing.
use Rattle.std.specs.Prelude.{ℕ, ◌≡◌, List, Result, Ok}
use Rattle.tables.specs.Rows.{SupplyRow, ScheduleRow}
use Rattle.tables.specs.declared.constraint.ConstraintRow.{ConstraintRow}
use Rattle.cells.specs.promises.Views.{answer_rows}
use Rattle.outcome.specs.Day.{RunningUnit}
use Rattle.outcome.specs.Decision.{decided, no_cost_schedule}
use Rattle.decision.specs.declared.deciding.NoCostSchedule.{NoCostSchedule}
use Rattle.decision.specs.promises.Choosing.{answer_of}

-- what the study's definition decides, with these units running; the suppliers shown are those of the rows
pub record DecidesRows
    (c : ConstraintRow) (supply : List SupplyRow) (scheduled : List ScheduleRow) (running : List RunningUnit) (k : ℕ)
    (new : List ℕ) (r : Result (Unit {0}) NoCostSchedule) : Type 0
  where
    pub answers : r ≡ answer_of (no_cost_schedule c.hour supply scheduled running)
    pub rows : r ≡ Ok tt → answer_rows k new ≡ decided c supply scheduled running supply
