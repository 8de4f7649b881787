-- Rows, one a turn, as far as the file goes. Assumes nothing.
use Rattle.std.proofs.Common.{arith, length-drop}
use Rattle.base.proofs.Lists.{rest-lent}
use Rattle.onepass.proofs.RowLaws.{walked_none, walked-room, walked-turn, walked-over}
use Rattle.onepass.proofs.rows.lay_rows.Goals as goal

pub loop-rest-init : goal.loop-rest-init
loop-rest-init c = (c.width-columns.ensures, c.most_rows-most.ensures, walked_none _ _ _ (omega arith))

pub slice_bounds-lay_row-count : goal.slice_bounds-lay_row-count
slice_bounds-lay_row-count c = omega (arith, walked-room _ _ _ _ _ _ _ c.loop-rest.invariant.2 (omega arith))

pub slice_bounds-lay_row-start : goal.slice_bounds-lay_row-start
slice_bounds-lay_row-start c = omega (arith, walked-room _ _ _ _ _ _ _ c.loop-rest.invariant.2 (omega arith))

pub slice_bounds-lay_row-end : goal.slice_bounds-lay_row-end
slice_bounds-lay_row-end c = omega (arith, walked-room _ _ _ _ _ _ _ c.loop-rest.invariant.2 (omega arith))

pub lay_row-requires : goal.lay_row-requires
lay_row-requires c = record { ranges = c.requires.ranges; file_in_bounds = rw (rest-lent, length-drop) (omega (arith, walked-room _ _ _ _ _ _ _ c.loop-rest.invariant.2 (omega arith))) }

pub overflow_add-at : goal.overflow_add-at
overflow_add-at c = omega (arith, walked-room _ _ _ _ _ _ _ c.loop-rest.invariant.2 (omega arith), c.loop-rest.invariant.0)

pub loop-rest-preserved : goal.loop-rest-preserved
loop-rest-preserved c = (c.loop-rest.invariant.0, c.loop-rest.invariant.1, walked-turn _ _ _ _ _ _ _ c.loop-rest.invariant.2 _ _ _ c.loop-rest.invariant.0 (omega arith) (omega arith) c.in_ok-next.ensures (omega arith))

pub returns : goal.returns
returns c = walked-over _ _ _ _ _ _ _ c.loop-rest.invariant.2 (omega arith)
