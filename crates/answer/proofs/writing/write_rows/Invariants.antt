-- A row a turn, each into the rest of the buffer. Assumes nothing.
use Rattle.base.proofs.Together.{Writing}
use Rattle.cells.specs.promises.Views.{answer_rows}
use Rattle.outcome.specs.Answer.{line}
use Rattle.answer.proofs.writing.write_rows.Given as goal

abbrev pub invariant-loop-i : goal.invariant-loop-i
invariant-loop-i l = Writing line (answer_rows l.n l.cells) l.initial.out l.i l.at l.out
