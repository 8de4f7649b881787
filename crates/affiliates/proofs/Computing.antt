-- What opens the definitions of this crate, for examples that compute. Assumes nothing.
use Rattle.affiliates.specs.Affiliates.{parent_of, head_from, comes_back, head, same_supplier, given_twice, returns, ringed, in_place, grouped}

unfoldable pub affiliates_all : Unit {0}
unfolding parent_of head_from comes_back head same_supplier given_twice returns ringed in_place grouped
affiliates_all = tt
