-- What opens the definitions of this crate, for examples that compute. Assumes nothing.
use Rattle.schedules.specs.Runs.{has_hours, has_run, lacking}
use Rattle.schedules.specs.Schedules.{same_schedule, unlike, repeats, second_m, schedule_odds, schedules_at_odds, not_in_supply, own, unscheduled}
use Rattle.hours.specs.Hours.{run_end}

unfoldable pub runs_all : Unit {0}
unfolding has_hours has_run lacking run_end
runs_all = tt

unfoldable pub schedules_all : Unit {0}
unfolding same_schedule unlike repeats second_m schedule_odds schedules_at_odds not_in_supply own unscheduled
schedules_all = tt
