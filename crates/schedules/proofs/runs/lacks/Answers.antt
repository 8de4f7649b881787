-- Whether a schedule of a unit lacks an hour, by the steps of each row. Assumes nothing.
use mathlib.Core.Path.{sym, ◌∙◌}
use Rattle.schedules.proofs.SearchLaws.{along-unit, rows-any}
use Rattle.links.proofs.LinkLaws.{rows-by-unit, along-here, along-less, along-next, along-over}
use Rattle.schedules.proofs.RunLaws.{lacks-by-stops, stops-unit, row_has}
use native.Mathlib.Omega.{arith}
use Rattle.schedules.proofs.runs.lacks.Goals as goal

pub link_at-left-requires : goal.link_at-left-requires
link_at-left-requires c = omega (arith, (rows-by-unit c.requires.rows_linked).room)

pub loop-left-init : goal.loop-left-init
loop-left-init c = rw c.link_at-left.ensures (let key = c.unit_key.ensures in let a = c.args in along-unit a.cells.now _ a.unit _ _ _ (rows-by-unit c.requires.rows_linked) key.0 key.1 (λ j e. stops-unit _ _ _ _ e))

pub stops-requires : goal.stops-requires
stops-requires c =
    let pre = c.requires in
    record { schedule_width_in_bounds = pre.schedule_width_in_bounds; rows_linked = pre.rows_linked; k_lt_n = omega arith; hour_le_last_hour = pre.checked.hour; permitted_schedule = row_has _ _ _ pre.checked.ranges (omega arith) }

pub returns-then-stops : goal.returns-then-stops
returns-then-stops c = along-here _ _ _ _ c.loop-left.invariant c.loop-left-test.true (sym c.stops.ensures ∙ c.if-stops.true) ∙ sym (rows-any _ _ _) ∙ sym (lacks-by-stops _ _ _ c.requires.checked)

pub loop-left-smaller : goal.loop-left-smaller
loop-left-smaller c = rw c.link_at-left-in-loop-left.ensures (along-less _ _ _ _ c.loop-left.invariant c.loop-left-test.true)

pub loop-left-preserved : goal.loop-left-preserved
loop-left-preserved c = rw c.link_at-left-in-loop-left.ensures (along-next _ _ _ _ c.loop-left.invariant c.loop-left-test.true (sym c.stops.ensures ∙ c.if-stops.false))

pub returns : goal.returns
returns c = along-over _ _ _ _ c.loop-left.invariant c.loop-left-test.false ∙ sym (rows-any _ _ _) ∙ sym (lacks-by-stops _ _ _ c.requires.checked)
