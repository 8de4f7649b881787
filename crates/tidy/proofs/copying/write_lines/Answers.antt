-- A line a turn, each into the rest of the buffer. Assumes nothing.
use native.Mathlib.Omega.{arith}
use lib.ListN.{length-drop}
use Rattle.base.proofs.Lists.{rest-lent}
use Rattle.tidy.proofs.LineLaws.{lines_none, line_read, line-fewer, lines-room, line-room, lines_next, lines-over}
use Rattle.tidy.proofs.copying.write_lines.Goals as goal

pub loop-rest-init : goal.loop-rest-init
loop-rest-init c = lines_none _ _

pub slice_bounds-write_line-count : goal.slice_bounds-write_line-count
slice_bounds-write_line-count c =
    omega (arith, lines-room c.loop-rest.invariant c.requires)

pub slice_bounds-write_line-start : goal.slice_bounds-write_line-start
slice_bounds-write_line-start c =
    omega (arith, lines-room c.loop-rest.invariant c.requires)

pub slice_bounds-write_line-end : goal.slice_bounds-write_line-end
slice_bounds-write_line-end c = omega arith

pub write_line-line-requires : goal.write_line-line-requires
write_line-line-requires c =
    rw (rest-lent, length-drop) (omega (arith, lines-room c.loop-rest.invariant c.requires))

pub overflow_add-at : goal.overflow_add-at
overflow_add-at c =
    omega (arith, line-room c.loop-rest.invariant c.requires c.write_line-line.ensures)

pub slice_bounds-rest-count : goal.slice_bounds-rest-count
slice_bounds-rest-count c = omega (arith, line_read c.write_line-line.ensures)

pub slice_bounds-rest-start : goal.slice_bounds-rest-start
slice_bounds-rest-start c = omega (arith, line_read c.write_line-line.ensures)

pub slice_bounds-rest-end : goal.slice_bounds-rest-end
slice_bounds-rest-end c = omega arith

pub loop-rest-smaller : goal.loop-rest-smaller
loop-rest-smaller c = line-fewer c.write_line-line.ensures (omega arith)

pub loop-rest-preserved : goal.loop-rest-preserved
loop-rest-preserved c =
    lines_next c.loop-rest.invariant c.requires c.write_line-line.ensures

pub shape_of-out : goal.shape_of-out
shape_of-out c = c.loop-rest.invariant.same_length

pub returns : goal.returns
returns c = lines-over c.loop-rest.invariant (omega arith)
