-- The rows of the files: 20, 21, 22, then laid down. Assumes nothing.
use mathlib.Core.Path.{refl}
use native.Mathlib.Omega.{arith}
use Rattle.running.proofs.FormingLaws.{formed-few}
use Rattle.engine.specs.View.{view_of}
use Rattle.engine.proofs.DecidingLaws.{was-without-cost, was-decided, rows-ready, rows-earlier, rows-without-cost, rows-over-limit, rows-laid}
use Rattle.engine.proofs.day.Day.decide_rows.Goals as goal

pub returns-then-is_earlier : goal.returns-then-is_earlier
returns-then-is_earlier c = rows-earlier _ _ _ _ _ _ c.is_earlier.ensures c.if-is_earlier.true c.refused_by_state.ensures

pub decide-decided-requires : goal.decide-decided-requires
decide-decided-requires c =
    let pre = c.requires in
    let units = pre.units_of in
    record { market_cells = pre.market_cells; units_of = units; schedule_cells = pre.schedule_cells; rows_linked = pre.rows_linked; count_le_most_running = formed-few _ pre.units_value; answer_width_in_bounds = omega (arith, units.few, pre.answer_width_in_bounds) }

pub would_run-requires : goal.would_run-requires
would_run-requires c = formed-few _ c.requires.units_value

pub returns-in-Err : goal.returns-in-Err
unfolding view_of
returns-in-Err c =
    let costless = was-without-cost _ _ _ _ _ _ c.decide-decided.ensures c.in-Err.is in
    rows-without-cost c.args.self _ _ _ _ _ c.is_earlier.ensures c.if-is_earlier.false _ costless c.refused_at.ensures

pub returns-then-would_run-gt-UNITS : goal.returns-then-would_run-gt-UNITS
unfolding view_of
returns-then-would_run-gt-UNITS c =
    let units = c.requires.units_of in
    let on-cost = was-decided _ _ _ _ _ _ c.decide-decided.ensures c.in-Ok.is in
    rows-over-limit c.args.self _ _ _ _ _ c.is_earlier.ensures c.if-is_earlier.false on-cost _ (rw units.listed at c.would_run.ensures) (omega arith) c.refused_by_state-then-would_run-gt-UNITS.ensures

pub returns-else-would_run-gt-UNITS : goal.returns-else-would_run-gt-UNITS
unfolding view_of
returns-else-would_run-gt-UNITS c =
    let pre = c.requires in
    let units = pre.units_of in
    let decides = c.decide-decided.ensures in
    let all = c.in-Ok.is in
    let ready = rows-ready _ _ _ _ _ _ decides _ units (omega (arith, units.few, pre.answer_width_in_bounds)) all _ c.would_run.ensures (omega arith) in
    rows-laid c.args.self _ _ _ _ _ c.is_earlier.ensures c.if-is_earlier.false (was-decided _ _ _ _ _ _ decides all) _ (rw units.listed at c.would_run.ensures) (omega arith) _ refl (decides.rows all) ready
