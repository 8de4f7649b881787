-- Whether a schedule has a row for an hour, along the rows of its key. Assumes nothing.
use mathlib.Core.Path.{sym, ◌∙◌}
use Rattle.links.proofs.LinkLaws.{along-here, along-less, along-next, along-over}
use Rattle.schedules.proofs.SearchLaws.{rows-any}
use Rattle.schedules.proofs.RunLaws.{along-schedule}
use Rattle.schedules.proofs.runs.has_hour.Goals as goal

pub loop-left-init : goal.loop-left-init
loop-left-init c = rw c.link_at-left.ensures (let key = c.schedule_key-key.ensures in let a = c.args in along-schedule a.cells.now _ a.k _ _ _ c.requires.linked (key.0 ∙ rw (c.cell-2.ensures, c.cell.ensures)) key.1)

pub returns-then-is_at : goal.returns-then-is_at
returns-then-is_at c = along-here _ _ _ _ c.loop-left.invariant c.loop-left-test.true (sym c.is_at.ensures ∙ c.if-is_at.true) ∙ sym (rows-any _ _ _)

pub loop-left-smaller : goal.loop-left-smaller
loop-left-smaller c = rw c.link_at-left-in-loop-left.ensures (along-less _ _ _ _ c.loop-left.invariant c.loop-left-test.true)

pub loop-left-preserved : goal.loop-left-preserved
loop-left-preserved c = rw c.link_at-left-in-loop-left.ensures (along-next _ _ _ _ c.loop-left.invariant c.loop-left-test.true (sym c.is_at.ensures ∙ c.if-is_at.false))

pub returns : goal.returns
returns c = along-over _ _ _ _ c.loop-left.invariant c.loop-left-test.false ∙ sym (rows-any _ _ _)
