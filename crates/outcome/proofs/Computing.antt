-- What opens the definitions of this crate, for examples that compute. Assumes nothing.
use Rattle.base.specs.Text.{together, written}
use Rattle.outcome.specs.Answer.{answer_header, line, answer_text}
use Rattle.outcome.specs.Day.{hour_in_range, unit_in_range, rising_in_range, day_formed, fresh_day, runs, without, release_refusal, released, put, put_all, committed, earlier, kind_running, would_run}
use Rattle.outcome.specs.Decision.{of_unit, unit_row, untested, cleared, left_of, verdict_of, left_shown, has_relevant, has_eligible, exposed_unit, choice_of, decided_row, decided, lacks_cost, no_cost_schedule}
use Rattle.outcome.specs.Preview.{previewing, row_for, not_supplied, preview_refusals, preview_refusal, previewed}
use Rattle.outcome.specs.Study.{chosen, outcome, too_many_running, short_buffer, rows_refusals, study_rows, answer_file, decision_refusals, study_refusals, decision_refusal, study_refusal, studied}
use Rattle.tables.specs.Values.{in_column}
use Rattle.tables.specs.Refusals.{unless}

unfoldable pub answer_all : Unit {0}
unfolding answer_header line together answer_text
answer_all = tt

unfoldable pub day_all : Unit {0}
unfolding in_column hour_in_range unit_in_range rising_in_range day_formed fresh_day runs without unless release_refusal released put put_all committed earlier kind_running would_run
day_all = tt

unfoldable pub decision_all : Unit {0}
unfolding of_unit unit_row untested cleared left_of verdict_of left_shown has_relevant has_eligible exposed_unit choice_of decided_row decided lacks_cost no_cost_schedule
decision_all = tt

unfoldable pub study_all : Unit {0}
unfolding chosen written outcome too_many_running short_buffer rows_refusals study_rows answer_file decision_refusals study_refusals decision_refusal study_refusal studied
study_all = tt

unfoldable pub preview_all : Unit {0}
unfolding previewing row_for not_supplied preview_refusals preview_refusal previewed
preview_all = tt
