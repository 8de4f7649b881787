-- The tests first, then the rows by them. Assumes nothing.
use Rattle.decision.proofs.DecidedRows.{decides-rows}
use Rattle.decision.proofs.deciding.decide.Goals as goal

pub choose_rows-requires : goal.choose_rows-requires
choose_rows-requires c =
    let pre = c.requires in
    record { count_le_most_running = pre.count_le_most_running; k_le_most_units = pre.units_of.few; answer_width_in_bounds = pre.answer_width_in_bounds }

pub returns : goal.returns
returns c = rw (← c.of-schedules.ensures) (decides-rows _ _ _ _ _ _ c.requires.units_of _ c.test_units-tests.ensures _ _ c.choose_rows.ensures)
