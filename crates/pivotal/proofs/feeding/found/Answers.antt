-- What was found of a supplier. Assumes nothing.
use native.Mathlib.Omega.{arith}
use borrow.Author.Tests.{lt-ltb, le-ltb}
use Rattle.pivotal.specs.Test.{pivotal}
use Rattle.pivotal.proofs.feeding.found.Goals as goal

pub returns-then-left-need : goal.returns-then-left-need
unfolding pivotal
returns-then-left-need c = let args = c.args in rw (lt-ltb args.left args.need (omega arith))

pub returns-else-left-need : goal.returns-else-left-need
unfolding pivotal
returns-else-left-need c = let args = c.args in rw (le-ltb args.left args.need (omega arith))
