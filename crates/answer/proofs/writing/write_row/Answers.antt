-- A row, part by part. Assumes nothing.
use native.Mathlib.Omega.{arith}
use lib.ListN.{length-drop}
use Rattle.base.proofs.Lists.{rest-lent}
use Rattle.cells.specs.promises.Views.{answer_at}
use Rattle.answer.proofs.LineLaws.{line-parts, line-parts-length}
use Rattle.base.proofs.Writers.{wrote-next}
use Rattle.answer.proofs.writing.write_row.Goals as goal

pub write_ids-at-requires : goal.write_ids-at-requires
write_ids-at-requires c =
    let parts = line-parts-length (answer_at c.args.cells.now c.args.i) in
    record { i_in_bounds = c.requires.i_in_bounds; i_in_bounds_2 = omega (arith, parts) }

pub slice_bounds-write_test-count : goal.slice_bounds-write_test-count
slice_bounds-write_test-count c =
    omega (arith, line-parts-length (answer_at c.args.cells.now c.args.i))

pub slice_bounds-write_test-start : goal.slice_bounds-write_test-start
slice_bounds-write_test-start c =
    omega (arith, line-parts-length (answer_at c.args.cells.now c.args.i))

pub write_test-at-requires : goal.write_test-at-requires
write_test-at-requires c =
    let parts = line-parts-length (answer_at c.args.cells.now c.args.i) in
    record { i_in_bounds = c.requires.i_in_bounds; lettered = c.requires.lettered; i_in_bounds_2 = rw (rest-lent, length-drop) (omega (arith, parts)) }

pub overflow_add-at : goal.overflow_add-at
overflow_add-at c =
    omega (arith, line-parts-length (answer_at c.args.cells.now c.args.i))

pub slice_bounds-write_schedule-count : goal.slice_bounds-write_schedule-count
slice_bounds-write_schedule-count c =
    omega (arith, line-parts-length (answer_at c.args.cells.now c.args.i))

pub slice_bounds-write_schedule-start : goal.slice_bounds-write_schedule-start
slice_bounds-write_schedule-start c =
    omega (arith, line-parts-length (answer_at c.args.cells.now c.args.i))

pub write_schedule-at-requires : goal.write_schedule-at-requires
write_schedule-at-requires c =
    let parts = line-parts-length (answer_at c.args.cells.now c.args.i) in
    record { i_in_bounds = c.requires.i_in_bounds; lettered = c.requires.lettered; i_in_bounds_2 = rw (rest-lent, length-drop) (omega (arith, parts)) }

pub overflow_add-at-2 : goal.overflow_add-at-2
overflow_add-at-2 c =
    omega (arith, line-parts-length (answer_at c.args.cells.now c.args.i))

pub returns : goal.returns
returns c =
    let start = c.args in
    rw (line-parts (answer_at start.cells.now start.i))
    (wrote-next
    (wrote-next c.write_ids-at.ensures
    c.write_test-at.ensures)
    c.write_schedule-at.ensures)
