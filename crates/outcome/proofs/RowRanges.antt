-- What a row of an accepted study has running is within the ranges of a day's numbers, by what demand 3 says of the row and by
-- the ranges of the files' rows. Assumes nothing.
use Rattle.std.specs.Prelude.{None}
use mathlib.Core.Path.{◌≡◌, ap}
use mathlib.Core.Bool.{true}
use mathlib.Core.List.{List, Memᴰ as Among}
use native.Mathlib.Omega.{arith}
use Rattle.base.specs.Search.{All}
use Rattle.base.proofs.Elements.{all-mem, all-those, those-mem}
use Rattle.tables.specs.promises.Ranges.{PermittedSchedule}
use Rattle.tables.specs.Rows.{SupplyRow, ScheduleRow}
use Rattle.tables.specs.declared.answer.AnswerRow.{AnswerRow}
use Rattle.tables.specs.declared.constraint.ConstraintRow.{ConstraintRow}
use Rattle.checking.specs.Files.{Files}
use Rattle.schedules.specs.Schedules.{own}
use Rattle.choice.specs.Choosing.{shown}
use Rattle.choice.specs.Schedules.{at_hour, schedules}
use Rattle.choice.specs.declared.choices.Choice.{Choice}
use Rattle.outcome.specs.Day.{RunningUnit, DayView, unit_in_range}
use Rattle.outcome.specs.Right.{RightSchedule}
use Rattle.outcome.specs.Study.{chosen, study_rows, decision_refusal}
use Rattle.outcome.proofs.DayRanges.{unit-in-range}
use Rattle.outcome.proofs.Demand3.{study-right}
use Rattle.outcome.proofs.Sound.{files-kept, sound}

-- the schedule that a right row shows is one of the schedules file
pub row-permitted :
    {c : ConstraintRow} {supply : List SupplyRow} {scheduled : List ScheduleRow} {running : List RunningUnit} {r : AnswerRow} →
    All PermittedSchedule scheduled → (t : RightSchedule c supply scheduled running r) → PermittedSchedule t.right.row
unfolding own schedules
row-permitted {c} {scheduled} {r} a t =
    all-mem (all-those _ a) (those-mem (at_hour c.hour) (own r.unit scheduled) t.right.is-eligible.of-the-unit).0

pub row-in-range :
    (d : DayView) (f : Files) → decision_refusal d f ≡ None → (r : AnswerRow) → Among r (study_rows d f) →
    unit_in_range (chosen r) ≡ true
unfolding chosen shown
row-in-range d f ok r m =
    let (per-unit, every-row) = study-right d f ok in
    let (w, of-the-unit) = per-unit.a_unit r m in
    let unit = all-mem (files-kept d f ok).supply-permitted of-the-unit.a-row in
    let right = (all-mem every-row m).schedule in
    let schedule = row-permitted (sound d f ok).schedules right in
    let number = ap (λ (x : Choice). x.schedule) right.right.shows in
    unit-in-range (chosen r)
    (omega (arith, of-the-unit.its-unit, unit.some-unit))
    (omega (arith, of-the-unit.its-unit, unit.unit))
    (omega (arith, number, schedule.some-schedule))
    (omega (arith, number, schedule.schedule))
