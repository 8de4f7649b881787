-- The row of a point, along the rows of its schedule's key. Assumes nothing.
use mathlib.Core.Path.{sym, ◌∙◌}
use native.Mathlib.Omega.{arith}
use Rattle.links.proofs.LinkLaws.{along-less, along-next}
use Rattle.curves.proofs.PlacingLaws.{along-point, found_none}
use Rattle.curves.proofs.placing.row_along.Goals as goal

pub loop-left-init : goal.loop-left-init
loop-left-init c = let key = c.own_key-key.ensures in let a = c.args in rw c.link_at-left.ensures (along-point a.points.now a.i _ a.cells.now a.numbers.now _ _ _ _ c.requires.linked c.cell-unit.ensures c.cell.ensures key.0 key.1)

pub returns-then-is_of : goal.returns-then-is_of
returns-then-is_of c = (omega (arith, c.loop-left.invariant.upto), sym c.is_of.ensures ∙ c.if-is_of.true)

pub loop-left-smaller : goal.loop-left-smaller
loop-left-smaller c = rw c.link_at-left-in-loop-left.ensures (along-less _ _ _ _ c.loop-left.invariant c.loop-left-test.true)

pub loop-left-preserved : goal.loop-left-preserved
loop-left-preserved c = rw c.link_at-left-in-loop-left.ensures (along-next _ _ _ _ c.loop-left.invariant c.loop-left-test.true (sym c.is_of.ensures ∙ c.if-is_of.false))

pub returns : goal.returns
returns c = let a = c.args in found_none a.points.now a.i _ _ c.loop-left.invariant c.loop-left-test.false
