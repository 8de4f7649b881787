-- The rows' lengths, one a turn. Assumes nothing.
use native.Mathlib.Omega.{arith}
use Rattle.answer.proofs.LoopLaws.{row-counted, all-counted}
use Rattle.answer.proofs.lengths.length.Goals as goal

pub loop-i-preserved : goal.loop-i-preserved
loop-i-preserved c = row-counted _ _ (omega arith) c.line_length-at.ensures c.loop-i.invariant

pub returns : goal.returns
returns c = all-counted _ _ (omega arith) c.loop-i.invariant
