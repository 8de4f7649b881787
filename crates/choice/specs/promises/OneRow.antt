-- What the choice goes by beside the rows of a unit. Assumes nothing.
use Rattle.std.specs.Prelude.{ℕ, ◌≡◌}
use mathlib.Core.List.{List, Memᴰ as Among}
use Rattle.tables.specs.Rows.{ScheduleRow}
use Rattle.choice.specs.Schedules.{schedules}

-- no two schedules share a number, which refusals 6 and 9 ensure
pub record OneRowEach (h : ℕ) (rows : List ScheduleRow) : Type 0 where
  pub same :
      (a b : ScheduleRow) → Among a (schedules h rows) → Among b (schedules h rows) → a.schedule ≡ b.schedule → a ≡ b
