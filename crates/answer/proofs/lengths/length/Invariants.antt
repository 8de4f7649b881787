-- The rows' lengths, one a turn. Assumes nothing.
use Rattle.answer.proofs.LoopLaws.{RowsCounted}
use Rattle.answer.proofs.lengths.length.Given as goal

abbrev pub invariant-loop-i : goal.invariant-loop-i
invariant-loop-i l = RowsCounted l.n l.cells l.i l.at
