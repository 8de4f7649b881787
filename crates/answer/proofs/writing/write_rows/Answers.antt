-- A row a turn, each into the rest of the buffer. Assumes nothing.
use native.Mathlib.Omega.{arith}
use lib.ListN.{length-drop}
use Rattle.base.proofs.Lists.{rest-lent}
use Rattle.answer.proofs.LineLaws.{lettered-at}
use Rattle.answer.proofs.LoopLaws.{row_room, row_written, all-written}
use Rattle.base.proofs.Together.{writing-none}
use Rattle.answer.proofs.writing.write_rows.Goals as goal

pub loop-i-init : goal.loop-i-init
loop-i-init c = writing-none _ _ _

pub write_row-at-requires-clause-lettered : goal.write_row-at-requires-clause-lettered
write_row-at-requires-clause-lettered c = lettered-at _ _ c.loop-i.i (omega arith) c.requires.all

pub write_row-at-requires-clause-i_in_bounds_2 : goal.write_row-at-requires-clause-i_in_bounds_2
write_row-at-requires-clause-i_in_bounds_2 c =
    let room = row_room _ _ _ c.requires.cells_in_bounds (omega arith) c.loop-i.invariant in
    rw (rest-lent, length-drop) (omega (arith, room))

pub loop-i-preserved : goal.loop-i-preserved
loop-i-preserved c =
    let start = c.requires in
    let now = c.loop-i in
    row_written _ _ _ start.cells_in_bounds (omega arith) now.invariant c.write_row-at.ensures

pub returns : goal.returns
returns c = all-written _ _ (omega arith) c.loop-i.invariant
