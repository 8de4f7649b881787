-- What is known of schedule rows once refusals 1 to 6 are passed, as far as runs go by it. Assumes nothing.
use Rattle.std.specs.Prelude.{ℕ, ◌≤◌, ◌≡◌, List, None}
use Rattle.base.specs.Search.{All}
use Rattle.hours.specs.Hours.{last_hour}
use Rattle.tables.specs.promises.Ranges.{PermittedSchedule}
use Rattle.tables.specs.Rows.{ScheduleRow}
use Rattle.schedules.specs.Schedules.{schedules_at_odds}

-- rows in their ranges and at odds with none, and a study hour h in its range
pub record Checked (h : ℕ) (rs : List ScheduleRow) : Type 0 where
  pub hour : h ≤ last_hour
  pub ranges : All PermittedSchedule rs
  pub agree : schedules_at_odds rs ≡ None
