-- The last number of a record and its CR LF. Assumes nothing.
use Prim.Native.Nat.{◌+◌, ◌*◌}
use native.Mathlib.Omega.{arith}
use lib.ListN.{get_or, length-set}
use Rattle.cells.specs.promises.Views.{answer_width}
use Rattle.answer.proofs.LineLaws.{last-length}
use Rattle.answer.proofs.WriteLaws.{last-room, wrote-last}
use Rattle.answer.proofs.writing.write_last.Goals as goal

pub write-at-requires : goal.write-at-requires
write-at-requires c =
    let start = c.args in
    rw c.cell.ensures
    (omega (arith, last-length (get_or start.cells.now (start.i * answer_width + start.column) 0)))

pub bounds-out-at : goal.bounds-out-at
bounds-out-at c =
    let read = c.cell.ensures in
    let fits = last-room read c.write-at.ensures c.requires.column_in_bounds in
    omega (arith, fits)

pub overflow_add-out : goal.overflow_add-out
overflow_add-out c =
    let read = c.cell.ensures in
    let fits = last-room read c.write-at.ensures c.requires.column_in_bounds in
    omega (arith, fits)

pub bounds-out-at-2 : goal.bounds-out-at-2
bounds-out-at-2 c =
    let read = c.cell.ensures in
    let fits = last-room read c.write-at.ensures c.requires.column_in_bounds in
    simp length-set (omega (arith, fits))

pub overflow_add-result : goal.overflow_add-result
overflow_add-result c =
    let read = c.cell.ensures in
    let fits = last-room read c.write-at.ensures c.requires.column_in_bounds in
    omega (arith, fits)

pub returns : goal.returns
returns c =
    let read = c.cell.ensures in
    let fits = last-room read c.write-at.ensures c.requires.column_in_bounds in
    wrote-last read (omega arith) (omega arith) (omega arith) (omega (arith, fits)) c.write-at.ensures
