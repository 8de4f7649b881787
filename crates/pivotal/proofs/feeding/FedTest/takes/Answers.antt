-- Whether one amount more is within the limits. Assumes nothing.
use mathlib.Core.Path.{refl}
use Rattle.pivotal.specs.Fed.{takes}
use Rattle.pivotal.proofs.feeding.FedTest.takes.Goals as goal

pub returns : goal.returns
unfolding takes
returns c = refl
