-- A number and the comma behind it. Assumes nothing.
use Prim.Native.Nat.{◌+◌, ◌*◌}
use native.Mathlib.Omega.{arith}
use lib.ListN.{get_or}
use Rattle.cells.specs.promises.Views.{answer_width}
use Rattle.answer.proofs.LineLaws.{number-length}
use Rattle.answer.proofs.WriteLaws.{number-room, wrote-number}
use Rattle.answer.proofs.writing.write_number.Goals as goal

pub write-at-requires : goal.write-at-requires
write-at-requires c =
    let start = c.args in
    rw c.cell.ensures
    (omega (arith, number-length (get_or start.cells.now (start.i * answer_width + start.column) 0)))

pub bounds-out-at : goal.bounds-out-at
bounds-out-at c =
    let read = c.cell.ensures in
    let fits = number-room read c.write-at.ensures c.requires.column_in_bounds in
    omega (arith, fits)

pub overflow_add-result : goal.overflow_add-result
overflow_add-result c =
    let read = c.cell.ensures in
    let fits = number-room read c.write-at.ensures c.requires.column_in_bounds in
    omega (arith, fits)

pub returns : goal.returns
returns c =
    let read = c.cell.ensures in
    wrote-number read (omega arith) (bounds-out-at c) c.write-at.ensures
