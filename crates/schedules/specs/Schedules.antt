-- Document 01, "Files": what schedule rows must be to each other and to supply: "Rows of one schedule share kind, startup
-- and minrun; no two share the hour. A unit has at most one M schedule." A schedule is a unit's, by its number. What else the
-- paper says of a schedule, its run, is in the crate `runs`. Assumes nothing.
use Rattle.std.specs.Prelude.{ℕ, Bool, not, ◌&&◌, ◌||◌, List, [], eqb, Option}
use Rattle.base.specs.Rising.{among}
use Rattle.base.specs.Search.{first, any, find, those, first_at_odds}
use Rattle.tables.specs.Rows.{ScheduleRow}
use Rattle.tables.specs.Table.{M}

-- whether two rows are of one schedule
unfoldable pub same_schedule : ScheduleRow → ScheduleRow → Bool
same_schedule r e = eqb r.unit e.unit && eqb r.schedule e.schedule

-- 6: a row that breaks the sharing rule of its schedule
unfoldable pub unlike : ScheduleRow → ScheduleRow → Bool
unlike r e =
    same_schedule r e && not (eqb r.kind e.kind && eqb r.startup e.startup && eqb r.minrun e.minrun)

-- or repeats an hour
unfoldable pub repeats : ScheduleRow → ScheduleRow → Bool
repeats r e = same_schedule r e && eqb r.hour e.hour

-- or adds a second M schedule
unfoldable pub second_m : ScheduleRow → ScheduleRow → Bool
second_m r e =
    eqb r.unit e.unit && not (eqb r.schedule e.schedule) && eqb r.kind M && eqb e.kind M

unfoldable pub schedule_odds : ScheduleRow → ScheduleRow → Bool
schedule_odds r e = unlike r e || repeats r e || second_m r e

-- "first record at odds with an earlier one"
unfoldable pub schedules_at_odds : List ScheduleRow → Option ℕ
schedules_at_odds rs = first_at_odds schedule_odds [] 1 rs

-- 7: "schedule row of a unit not in supply (its record)"
unfoldable pub not_in_supply : List ℕ → List ScheduleRow → Option ℕ
not_in_supply us rs = first (λ (r : ScheduleRow). not (among r.unit us)) 1 rs

-- the rows of a unit
unfoldable pub own : ℕ → List ScheduleRow → List ScheduleRow
own u rs = those (λ (r : ScheduleRow). eqb r.unit u) rs

-- 8: "unit without a schedule (file 3, lowest unit)", of units by rising number
unfoldable pub unscheduled : List ℕ → List ScheduleRow → Option ℕ
unscheduled us rs = find (λ (u : ℕ). not (any (λ (r : ScheduleRow). eqb r.unit u) rs)) us
