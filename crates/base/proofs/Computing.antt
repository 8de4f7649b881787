-- What opens the definitions of this crate, for examples that compute. Assumes nothing.
use Rattle.base.specs.Rising.{inserted, among}
use Rattle.base.specs.Search.{first, any, find, those, first_at_odds, first_of}
use Rattle.base.specs.promises.Counting.{leading}

unfoldable pub rising_all : Unit {0}
unfolding inserted among
rising_all = tt

unfoldable pub search_all : Unit {0}
unfolding first leading any find those first_at_odds first_of
search_all = tt
