-- Whether something is left to be merged. Assumes nothing.
use borrow.Author.Tests.{lt-ltb, le-ltb}
use Rattle.running.specs.promises.Committing.{any_left}
use Rattle.running.proofs.committing.is_left.Goals as goal

pub returns-then-i-count : goal.returns-then-i-count
unfolding any_left
returns-then-i-count c = rw (lt-ltb _ _ c.if-i-count.true)

pub returns : goal.returns
unfolding any_left
returns c = rw (le-ltb _ _ c.if-i-count.false)
