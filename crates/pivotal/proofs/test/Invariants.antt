-- The test of a run of amounts, which are fed one after the other. Assumes nothing.
use mathlib.Core.Path.{◌≡◌}
use lib.ListN.{drop}
use Rattle.pivotal.specs.Fed.{begun, fed_all}
use Rattle.pivotal.proofs.test.Given as goal

abbrev pub invariant-loop-amount : goal.invariant-loop-amount
invariant-loop-amount l = fed_all l.fed (drop l.amount-index l.amounts) ≡ fed_all (begun l.place l.need) l.amounts
