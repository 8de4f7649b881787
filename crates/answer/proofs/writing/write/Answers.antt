-- The header, then the rows into the rest of the buffer. Assumes nothing.
use native.Mathlib.Omega.{arith}
use lib.ListN.{length-drop}
use Rattle.base.proofs.Lists.{rest-lent}
use Rattle.cells.specs.promises.Views.{answer_rows}
use Rattle.outcome.specs.Answer.{answer_text}
use Rattle.outcome.proofs.TextLengths.{text-parts}
use Rattle.base.proofs.Writers.{wrote-next}
use Rattle.answer.proofs.writing.write.Goals as goal

pub write_header-at-requires : goal.write_header-at-requires
write_header-at-requires c =
    omega (arith, text-parts (answer_rows c.args.n c.args.cells.now))

pub slice_bounds-write_rows-count : goal.slice_bounds-write_rows-count
slice_bounds-write_rows-count c =
    omega (arith, text-parts (answer_rows c.args.n c.args.cells.now))

pub slice_bounds-write_rows-start : goal.slice_bounds-write_rows-start
slice_bounds-write_rows-start c =
    omega (arith, text-parts (answer_rows c.args.n c.args.cells.now))

pub write_rows-at-requires : goal.write_rows-at-requires
write_rows-at-requires c =
    let parts = text-parts (answer_rows c.args.n c.args.cells.now) in
    record { n_in_bounds = c.requires.n_in_bounds; all = c.requires.all; cells_in_bounds = rw (rest-lent, length-drop) (omega (arith, parts)) }

pub overflow_add-at : goal.overflow_add-at
overflow_add-at c =
    omega (arith, text-parts (answer_rows c.args.n c.args.cells.now))

pub returns : goal.returns
unfolding answer_text
returns c =
    wrote-next c.write_header-at.ensures c.write_rows-at.ensures
