-- Whether a unit has a row, along the rows of its key. Assumes nothing.
use mathlib.Core.Path.{sym, ◌∙◌}
use borrow.Author.Tests.{eq-eqb, ne_eqb}
use Rattle.schedules.proofs.SearchLaws.{along-unit, rows-any}
use Rattle.links.proofs.LinkLaws.{rows-by-unit, along-here, along-less, along-next, along-over}
use native.Mathlib.Omega.{arith}
use Rattle.schedules.proofs.rows.has_row.Goals as goal

pub link_at-left-requires : goal.link_at-left-requires
link_at-left-requires c = omega (arith, (rows-by-unit c.requires.rows_linked).room)

pub loop-left-init : goal.loop-left-init
loop-left-init c = rw c.link_at-left.ensures (let key = c.unit_key.ensures in let a = c.args in along-unit a.cells.now _ a.unit _ _ _ (rows-by-unit c.requires.rows_linked) key.0 key.1 (λ j e. e))

pub returns-then-cell-unit : goal.returns-then-cell-unit
returns-then-cell-unit c = along-here _ _ _ _ c.loop-left.invariant c.loop-left-test.true (eq-eqb _ _ (sym c.cell.ensures ∙ c.if-cell-unit.true)) ∙ sym (rows-any _ _ _)

pub loop-left-smaller : goal.loop-left-smaller
loop-left-smaller c = rw c.link_at-left-in-loop-left.ensures (along-less _ _ _ _ c.loop-left.invariant c.loop-left-test.true)

pub loop-left-preserved : goal.loop-left-preserved
loop-left-preserved c = rw c.link_at-left-in-loop-left.ensures (along-next _ _ _ _ c.loop-left.invariant c.loop-left-test.true (ne_eqb _ _ (λ e. c.if-cell-unit.false (c.cell.ensures ∙ e))))

pub returns : goal.returns
returns c = along-over _ _ _ _ c.loop-left.invariant c.loop-left-test.false ∙ sym (rows-any _ _ _)
