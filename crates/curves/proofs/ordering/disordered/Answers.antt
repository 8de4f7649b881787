-- The first point out of the order of its curve. Assumes nothing.
use native.Mathlib.Omega.{arith}
use Rattle.curves.proofs.OrderLaws.{ordering-none, last-inside, count-inside, ordering-here, ordering-next, ordering-over}
use Rattle.curves.proofs.ordering.disordered.Goals as goal

pub loop-i-init : goal.loop-i-init
loop-i-init c = let pre = c.requires in ordering-none _ _ _ _ _ pre.point_cells pre.curve_places pre.most_linked_in_bounds pre.unlinked pre.most_linked_in_bounds_2 pre.unlinked_2

pub breaks-requires-clause-point_width_in_bounds_2 : goal.breaks-requires-clause-point_width_in_bounds_2
breaks-requires-clause-point_width_in_bounds_2 c =
    let l = c.loop-i.invariant in
    omega (arith, l.points-in.inside, last-inside _ _ _ _ _ _ l c.loop-i-test.true _ c.link_at-place.ensures _ c.link_at.ensures)

pub returns-then-breaks : goal.returns-then-breaks
returns-then-breaks c = ordering-here _ _ _ _ _ _ c.loop-i.invariant c.loop-i-test.true _ c.link_at-place.ensures _ _ _ c.link_at.ensures c.link_at-count.ensures c.breaks.ensures c.if-breaks.true

pub overflow_add-counts : goal.overflow_add-counts
overflow_add-counts c = let l = c.loop-i.invariant in omega (arith, l.points-in.few, count-inside _ _ _ _ _ _ l c.loop-i-test.true _ c.link_at-place.ensures _ c.link_at-count.ensures)

pub overflow_cast-counts : goal.overflow_cast-counts
overflow_cast-counts c = let l = c.loop-i.invariant in omega (arith, l.points-in.few, count-inside _ _ _ _ _ _ l c.loop-i-test.true _ c.link_at-place.ensures _ c.link_at-count.ensures)

pub loop-i-preserved : goal.loop-i-preserved
loop-i-preserved c = ordering-next _ _ _ _ _ _ c.loop-i.invariant c.loop-i-test.true _ c.link_at-place.ensures _ _ _ c.link_at.ensures c.link_at-count.ensures c.breaks.ensures _ _ c.if-breaks.false (omega arith) (omega arith)

pub returns : goal.returns
returns c = ordering-over _ _ _ _ _ _ c.loop-i.invariant (omega arith)
