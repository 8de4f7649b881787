-- A letter and the comma behind it. Assumes nothing.
use Prim.Native.Nat.{◌+◌, ◌*◌}
use native.Mathlib.Omega.{arith}
use lib.ListN.{get_or, length-set}
use Rattle.cells.specs.promises.Views.{answer_width}
use Rattle.answer.proofs.LineLaws.{letter-length}
use Rattle.answer.proofs.WriteLaws.{wrote-letter}
use Rattle.answer.proofs.writing.write_letter.Goals as goal

pub bounds-out-0 : goal.bounds-out-0
bounds-out-0 c =
    let start = c.args in
    let two = letter-length (get_or start.cells.now (start.i * answer_width + start.column) 0) in
    omega (arith, two)

pub bounds-out-1 : goal.bounds-out-1
bounds-out-1 c =
    let start = c.args in
    let two = letter-length (get_or start.cells.now (start.i * answer_width + start.column) 0) in
    simp length-set (omega (arith, two))

pub returns : goal.returns
returns c =
    let start = c.args in
    let two = letter-length (get_or start.cells.now (start.i * answer_width + start.column) 0) in
    wrote-letter c.cell.ensures (omega arith) (omega (arith, two))
