-- The schedule rows of a study as a lent run of cells, within the ranges of the table, under which costs fit. Assumes
-- nothing.
use Rattle.std.specs.Prelude.{ℕ, ◌+◌, ◌*◌, ◌≤◌, length}
use mathlib.Core.List.{List, Memᴰ as Among}
use Rattle.links.specs.promises.Links.{most_linked}
use Rattle.tables.specs.promises.Ranges.{PermittedSchedule}
use Rattle.tables.specs.Rows.{ScheduleRow}
use Rattle.tables.specs.promises.FlatRows.{schedule_rows}
use Rattle.cells.specs.promises.Views.{schedule_at, schedule_width}

-- all of them, n rows
pub record ScheduleCells (n : ℕ) (cells : List ℕ) : Type 0 where
  pub few : n ≤ most_linked
  pub room : n * schedule_width ≤ length cells
  pub ranged : (row : ScheduleRow) → Among row (schedule_rows n cells) → PermittedSchedule row

-- the row at a place
pub record ScheduleRowAt (cells : List ℕ) (i : ℕ) : Type 0 where
  pub room : i * schedule_width + schedule_width ≤ length cells
  pub ranged : PermittedSchedule (schedule_at cells i)
