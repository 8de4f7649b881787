-- The offer price by the kind. Assumes nothing.
use Rattle.choice.specs.Cost.{offer_price}
use Rattle.choice.proofs.prices.offer_price.Goals as goal

pub returns-in-M : goal.returns-in-M
unfolding offer_price
returns-in-M c = rw c.in-M.is

pub returns-in-C : goal.returns-in-C
unfolding offer_price
returns-in-C c = rw c.in-C.is c.capped.ensures
