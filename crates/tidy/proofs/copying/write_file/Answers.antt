-- The lines, then the end of the last one into the rest of the buffer. Assumes nothing.
use native.Mathlib.Omega.{arith}
use lib.ListN.{length-drop}
use Rattle.base.proofs.Lists.{rest-lent}
use Rattle.base.proofs.Writers.{wrote-next}
use Rattle.tidy.specs.promises.Copying.{copied}
use Rattle.tidy.proofs.CopyLaws.{copied-length}
use Rattle.tidy.proofs.copying.write_file.Goals as goal

pub write_lines-at-requires : goal.write_lines-at-requires
write_lines-at-requires c = omega (arith, copied-length c.args.s.now)

pub slice_bounds-write_last_end-count : goal.slice_bounds-write_last_end-count
slice_bounds-write_last_end-count c = omega (arith, copied-length c.args.s.now)

pub slice_bounds-write_last_end-start : goal.slice_bounds-write_last_end-start
slice_bounds-write_last_end-start c = omega (arith, copied-length c.args.s.now)

pub write_last_end-at-requires : goal.write_last_end-at-requires
write_last_end-at-requires c =
    rw (rest-lent, length-drop) (omega (arith, copied-length c.args.s.now))

pub overflow_add-at : goal.overflow_add-at
overflow_add-at c =
    omega (arith, copied-length c.args.s.now)

pub returns : goal.returns
unfolding copied
returns c =
    wrote-next c.write_lines-at.ensures c.write_last_end-at.ensures
