-- Rows from the last to the first. Assumes nothing.
use Rattle.std.proofs.Common.{drop}
use Rattle.base.specs.Search.{All}
use Rattle.cells.specs.promises.Letters.{Lettered}
use Rattle.cells.specs.promises.Views.{answer_rows}
use Rattle.test_answer.proofs.letters.lettered.Given as goal

abbrev pub invariant-loop-i : goal.invariant-loop-i
invariant-loop-i l = All Lettered (drop l.i (answer_rows l.n l.cells))
