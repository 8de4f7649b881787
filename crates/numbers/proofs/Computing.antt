-- What opens the definitions of this crate, for examples that compute. Assumes nothing.
use Rattle.numbers.specs.Numbers.{numbers_from, numbers_of, place_of}

unfoldable pub numbers_all : Unit {0}
unfolding numbers_from numbers_of place_of
numbers_all = tt
