-- Rule 9 by steps, as the code decides it: a schedule has its whole run when it has a row at the study hour, and one behind
-- each of its rows that is in the run and not its last. Assumes nothing.
use Rattle.std.specs.Prelude.{ℕ, ◌+◌, Bool, not, ◌&&◌, ◌||◌, List, eqb, leb, ltb}
use Rattle.base.specs.Search.{any}
use Rattle.hours.specs.Hours.{run_end}
use Rattle.tables.specs.Rows.{ScheduleRow}
use Rattle.schedules.specs.Schedules.{same_schedule}
use Rattle.schedules.specs.Runs.{has_run}

-- whether a row of some has not its whole run from h on
abbrev pub lacks : ℕ → List ScheduleRow → Bool
lacks h rs = any (λ (r : ScheduleRow). not (has_run h rs r)) rs

-- whether a row is of the schedule of r and for hour k, and whether one of some is
unfoldable pub is_at : ScheduleRow → ℕ → ScheduleRow → Bool
is_at r k e = same_schedule r e && eqb e.hour k

abbrev pub has_hour : ScheduleRow → ℕ → List ScheduleRow → Bool
has_hour r k rs = any (is_at r k) rs

-- whether the run goes on behind row r, where it has to
unfoldable pub goes_on : ℕ → List ScheduleRow → ScheduleRow → Bool
goes_on h rs r = not (leb h r.hour && ltb r.hour (run_end h r.minrun)) || has_hour r (r.hour + 1) rs

unfoldable pub keeps_on : ℕ → List ScheduleRow → ScheduleRow → Bool
keeps_on h rs r = has_hour r h rs && goes_on h rs r

-- whether a row is of the unit u, and doesn't keep the steps
unfoldable pub stops : ℕ → ℕ → List ScheduleRow → ScheduleRow → Bool
stops u h rs r = eqb r.unit u && not (keeps_on h rs r)
