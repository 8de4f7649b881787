-- Document 01, "Files": "With study hour h, a schedule's run is the hours from h to the lesser of h + minrun - 1 and 23, and
-- every schedule has a row for each." Assumes nothing.
use Rattle.std.specs.Prelude.{ℕ, zero, suc, ◌-◌, Bool, true, not, ◌&&◌, List, eqb, Option}
use Rattle.base.specs.Search.{any, find}
use Rattle.hours.specs.Hours.{run_end}
use Rattle.tables.specs.Rows.{ScheduleRow}
use Rattle.schedules.specs.Schedules.{same_schedule, own}

-- n hours from k on, each with a row of the schedule of r
unfoldable pub has_hours : ScheduleRow → ℕ → ℕ → List ScheduleRow → Bool
has_hours r k zero rs = true
has_hours r k (suc n) rs = any (λ (e : ScheduleRow). same_schedule r e && eqb e.hour k) rs && has_hours r (suc k) n rs

-- whether the schedule of r has a row for each hour of its run from h on
unfoldable pub has_run : ℕ → List ScheduleRow → ScheduleRow → Bool
has_run h rs r = has_hours r h (suc (run_end h r.minrun) - h) rs

-- 9: "schedule lacking a needed hour (file 3, lowest such unit)", of units by rising number
unfoldable pub lacking : ℕ → List ℕ → List ScheduleRow → Option ℕ
lacking h us rs = find (λ (u : ℕ). any (λ (r : ScheduleRow). not (has_run h (own u rs) r)) (own u rs)) us
