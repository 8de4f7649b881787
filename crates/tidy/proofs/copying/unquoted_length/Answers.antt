-- The bytes that are no quotes, counted one after the other. Assumes nothing.
use Rattle.tidy.proofs.LoopLaws.{byte-counted, all-counted}
use Rattle.tidy.proofs.copying.unquoted_length.Goals as goal

pub loop-b-preserved : goal.loop-b-preserved
loop-b-preserved c = byte-counted _ c.loop-b-test.true c.loop-b.invariant

pub returns : goal.returns
returns c = all-counted _ c.loop-b-test.false c.loop-b.invariant
