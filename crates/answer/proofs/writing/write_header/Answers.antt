-- The header record. Assumes nothing.
use native.Mathlib.Omega.{arith}
use Rattle.outcome.specs.Answer.{answer_header}
use Rattle.outcome.proofs.TextLengths.{header-length}
use Rattle.answer.proofs.writing.write_header.Goals as goal

pub put-requires : goal.put-requires
put-requires c = omega (arith, header-length)

pub returns : goal.returns
unfolding answer_header
returns c = c.put.ensures
