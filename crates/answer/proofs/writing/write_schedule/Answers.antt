-- Schedule, kind and cost, and the record's end. Assumes nothing.
use native.Mathlib.Omega.{arith}
use lib.ListN.{length-drop}
use Rattle.base.proofs.Lists.{rest-lent}
use Rattle.answer.specs.promises.Parts.{schedule_part}
use Rattle.cells.specs.promises.Views.{answer_at}
use Rattle.answer.proofs.LineLaws.{schedule-length}
use Rattle.base.proofs.Writers.{wrote-next}
use Rattle.answer.proofs.writing.write_schedule.Goals as goal

pub write_number-at-requires : goal.write_number-at-requires
write_number-at-requires c =
    let parts = schedule-length (answer_at c.args.cells.now c.args.i) in
    record { i_in_bounds = c.requires.i_in_bounds; column_bound = omega arith; column_in_bounds = omega (arith, parts) }

pub slice_bounds-write_letter-count : goal.slice_bounds-write_letter-count
slice_bounds-write_letter-count c =
    omega (arith, schedule-length (answer_at c.args.cells.now c.args.i))

pub slice_bounds-write_letter-start : goal.slice_bounds-write_letter-start
slice_bounds-write_letter-start c =
    omega (arith, schedule-length (answer_at c.args.cells.now c.args.i))

pub write_letter-at-requires : goal.write_letter-at-requires
write_letter-at-requires c =
    let parts = schedule-length (answer_at c.args.cells.now c.args.i) in
    record { i_in_bounds = c.requires.i_in_bounds; column_bound = omega arith; column_bound_2 = c.requires.lettered.kind; column_in_bounds = rw (rest-lent, length-drop) (omega (arith, parts)) }

pub overflow_add-at : goal.overflow_add-at
overflow_add-at c =
    omega (arith, schedule-length (answer_at c.args.cells.now c.args.i))

pub slice_bounds-write_last-count : goal.slice_bounds-write_last-count
slice_bounds-write_last-count c =
    omega (arith, schedule-length (answer_at c.args.cells.now c.args.i))

pub slice_bounds-write_last-start : goal.slice_bounds-write_last-start
slice_bounds-write_last-start c =
    omega (arith, schedule-length (answer_at c.args.cells.now c.args.i))

pub write_last-at-requires : goal.write_last-at-requires
write_last-at-requires c =
    let parts = schedule-length (answer_at c.args.cells.now c.args.i) in
    record { i_in_bounds = c.requires.i_in_bounds; column_bound = omega arith; column_in_bounds = rw (rest-lent, length-drop) (omega (arith, parts)) }

pub overflow_add-at-2 : goal.overflow_add-at-2
overflow_add-at-2 c =
    omega (arith, schedule-length (answer_at c.args.cells.now c.args.i))

pub returns : goal.returns
unfolding schedule_part
returns c =
    wrote-next
    (wrote-next c.write_number-at.ensures
    c.write_letter-at.ensures)
    c.write_last-at.ensures
