-- Demand 3 on a unit's schedule, number, kind and cost: the schedule is an eligible one of the unit, every other eligible one
-- costs at least as much, and one that costs the same has a larger number. Assumes nothing.
use Rattle.std.specs.Prelude.{ℕ, ◌≤◌, ◌<◌, ◌≡◌, ◌≢◌, Bool, true, Option}
use mathlib.Core.List.{List, Memᴰ as Among}
use Rattle.tables.specs.Rows.{ScheduleRow}
use Rattle.tables.specs.declared.files.Kind.{Kind}
use Rattle.choice.specs.declared.choices.Choice.{Choice}
use Rattle.choice.specs.Cost.{cost}
use Rattle.choice.specs.Schedules.{schedules, is_running, eligible_schedule}
use Rattle.choice.specs.Choosing.{shown}

-- an eligible schedule of the unit
pub record Eligible (day : Option Kind) (exposed : Bool) (h : ℕ) (rows : List ScheduleRow) (schedule : ScheduleRow) : Type 0 where
  pub of-the-unit : Among schedule (schedules h rows)
  pub passes : eligible_schedule day exposed (schedules h rows) schedule ≡ true

pub record RightChoice (day : Option Kind) (exposed : Bool) (h : ℕ) (rows : List ScheduleRow) (c : Choice) : Type 0 where
  pub row : ScheduleRow
  pub is-eligible : Eligible day exposed h rows row
  pub shows : c ≡ shown day h rows row
  pub least : (other : ScheduleRow) → Eligible day exposed h rows other → c.cost ≤ cost (is_running day) h rows other
  pub smallest :
      (other : ScheduleRow) → Eligible day exposed h rows other → cost (is_running day) h rows other ≡ c.cost →
      other.schedule ≢ c.schedule →
      c.schedule < other.schedule
