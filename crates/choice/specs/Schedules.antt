-- Document 01, "Choice of schedule": a unit's schedules and which of them are eligible. The day says on which kind the unit
-- runs, or none where it doesn't run. Assumes nothing; that every schedule has a row for the study hour is refusal 9.
use Rattle.std.specs.Prelude.{ℕ, Bool, true, false, cond, ◌||◌, List, [], ◌∷◌, eqb, None, Option, Some}
use Rattle.base.specs.Search.{those}
use Rattle.tables.specs.Rows.{ScheduleRow, kind_of}
use Rattle.tables.specs.declared.files.Kind.{Kind}
use Rattle.tables.specs.declared.files.Kind.TheVariants.{M, C}
use Rattle.choice.specs.declared.kinds.Kinds.{Kinds}
use Rattle.choice.specs.declared.kinds.Kinds.TheVariants.{All, OnlyM, OnlyC}

unfoldable pub at_hour : ℕ → ScheduleRow → Bool
at_hour h row = eqb row.hour h

-- the schedules of a unit, each by its row for the study hour
unfoldable pub schedules : ℕ → List ScheduleRow → List ScheduleRow
schedules h rows = those (at_hour h) rows

abbrev pub is_running : Option Kind → Bool
is_running None = false
is_running (Some k) = true

abbrev pub on_cost : Option Kind → Bool
on_cost None = false
on_cost (Some M) = false
on_cost (Some C) = true

abbrev pub admits : Kinds → Kind → Bool
admits All k = true
admits OnlyM M = true
admits OnlyM C = false
admits OnlyC M = false
admits OnlyC C = true

unfoldable pub of_kinds : Kinds → ScheduleRow → Bool
of_kinds kinds schedule = admits kinds (kind_of schedule.kind)

-- whether there is a schedule of these kinds
unfoldable pub has_any : Kinds → List ScheduleRow → Bool
has_any kinds [] = false
has_any kinds (schedule ∷ more) = of_kinds kinds schedule || has_any kinds more

-- "Eligible schedules: if the day has the unit running on a C schedule, its C schedules; otherwise, if exposed, all;
-- otherwise its M schedule, or its C schedules where it has no M."
unfoldable pub eligible_kinds : Option Kind → Bool → Bool → Kinds
eligible_kinds day exposed has_m = cond (on_cost day) OnlyC (cond exposed All (cond has_m OnlyM OnlyC))

unfoldable pub eligible_schedule : Option Kind → Bool → List ScheduleRow → ScheduleRow → Bool
eligible_schedule day exposed all = of_kinds (eligible_kinds day exposed (has_any OnlyM all))
