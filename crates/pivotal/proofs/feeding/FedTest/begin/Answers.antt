-- The test before its first amount. Assumes nothing.
use mathlib.Core.Path.{refl}
use Rattle.pivotal.specs.Test.{no_largest}
use Rattle.pivotal.specs.Fed.{begun}
use Rattle.pivotal.proofs.feeding.FedTest.begin.Goals as goal

pub returns : goal.returns
unfolding begun no_largest
returns c = refl
