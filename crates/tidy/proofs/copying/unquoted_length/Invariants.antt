-- The bytes that are no quotes, counted one after the other. Assumes nothing.
use Rattle.base.proofs.Together.{Counting}
use Rattle.tidy.specs.promises.Copying.{kept}
use Rattle.tidy.proofs.copying.unquoted_length.Given as goal

abbrev pub invariant-loop-b : goal.invariant-loop-b
invariant-loop-b l = Counting kept l.s 0 1 l.b-index l.count
