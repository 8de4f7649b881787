-- The capped offer: a cost above the ceiling by itself, another by two minima. Assumes nothing.
use native.Mathlib.Omega.{arith}
use Rattle.offers.specs.Offer.{with_adder}
use Rattle.offers.proofs.OfferLaws.{offer-with-adder, offer-alone}
use Rattle.offers.proofs.offer.capped.Goals as goal

pub returns-then-cost-gt-CEILING : goal.returns-then-cost-gt-CEILING
returns-then-cost-gt-CEILING c = omega (arith, offer-alone c.args.cost (omega arith))

pub overflow_add-cost : goal.overflow_add-cost
overflow_add-cost c = omega arith

pub returns : goal.returns
unfolding with_adder
returns c = let cost = c.args.cost in
    omega (arith, offer-with-adder cost (omega arith), c.min-2.ensures, c.min.ensures)
