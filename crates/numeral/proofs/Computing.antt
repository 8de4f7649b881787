-- What opens the definitions of this crate, for examples that compute. Assumes nothing.
use Rattle.numeral.specs.Numeral.{digits_from, leading_zero, number, within, digits_before, digits}

unfoldable pub numeral_all : Unit {0}
unfolding digits_from leading_zero number within digits_before digits
numeral_all = tt
