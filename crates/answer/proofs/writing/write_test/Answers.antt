-- Verdict and left. Assumes nothing.
use native.Mathlib.Omega.{arith}
use lib.ListN.{length-drop}
use Rattle.base.proofs.Lists.{rest-lent}
use Rattle.answer.specs.promises.Parts.{test_part}
use Rattle.cells.specs.promises.Views.{answer_at}
use Rattle.answer.proofs.LineLaws.{test-length}
use Rattle.base.proofs.Writers.{wrote-next}
use Rattle.answer.proofs.writing.write_test.Goals as goal

pub write_letter-at-requires : goal.write_letter-at-requires
write_letter-at-requires c =
    let parts = test-length (answer_at c.args.cells.now c.args.i) in
    record { i_in_bounds = c.requires.i_in_bounds; column_bound = omega arith; column_bound_2 = c.requires.lettered.verdict; column_in_bounds = omega (arith, parts) }

pub slice_bounds-write_number-count : goal.slice_bounds-write_number-count
slice_bounds-write_number-count c =
    omega (arith, test-length (answer_at c.args.cells.now c.args.i))

pub slice_bounds-write_number-start : goal.slice_bounds-write_number-start
slice_bounds-write_number-start c =
    omega (arith, test-length (answer_at c.args.cells.now c.args.i))

pub write_number-at-requires : goal.write_number-at-requires
write_number-at-requires c =
    let parts = test-length (answer_at c.args.cells.now c.args.i) in
    record { i_in_bounds = c.requires.i_in_bounds; column_bound = omega arith; column_in_bounds = rw (rest-lent, length-drop) (omega (arith, parts)) }

pub overflow_add-at : goal.overflow_add-at
overflow_add-at c =
    omega (arith, test-length (answer_at c.args.cells.now c.args.i))

pub returns : goal.returns
unfolding test_part
returns c =
    wrote-next c.write_letter-at.ensures c.write_number-at.ensures
