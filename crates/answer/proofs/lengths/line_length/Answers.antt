-- The length of a record by its numerals. Assumes nothing.
use native.Mathlib.Omega.{arith}
use Rattle.cells.specs.promises.Views.{answer_at}
use Rattle.outcome.proofs.TextLengths.{line-length}
use Rattle.answer.proofs.lengths.line_length.Goals as goal

pub returns : goal.returns
returns c =
    let start = c.args in
    let unit = c.numeral_length-unit.ensures in
    let supplier = c.numeral_length-supplier.ensures in
    let left = c.numeral_length-left.ensures in
    let schedule = c.numeral_length-schedule.ensures in
    let cost = c.numeral_length-cost.ensures in
    record {
      counted = omega (arith, line-length (answer_at start.cells.now start.i));
      most = omega arith;
    }
