-- What opens the definitions of this crate, for examples that compute. Assumes nothing.
use Rattle.supply.specs.Supply.{units, suppliers, over_limit_from, over_limit, supply_odds, supply_at_odds}

unfoldable pub supply_all : Unit {0}
unfolding units suppliers over_limit_from over_limit supply_odds supply_at_odds
supply_all = tt
