-- What opens the definitions of this crate, for examples that compute. Assumes nothing.
use Rattle.curves.specs.Curves.{same_hour, point_of, same_curve, stray_point, breaks_order, disordered_from, disordered, below_ecomin, ends_low_from, ends_low, price_at, with_price, priced_row, priced}

unfoldable pub curves_all : Unit {0}
unfolding same_hour point_of same_curve stray_point breaks_order disordered_from disordered below_ecomin ends_low_from ends_low price_at with_price priced_row priced
curves_all = tt
