-- Document 01, "The day": "A day with more than 64 units, units not strictly rising, or a number outside its column's range is
-- ill-formed." What that asks of the running units alone. Assumes nothing.
use Rattle.std.specs.Prelude.{Bool, ◌&&◌, List, leb, length}
use Rattle.outcome.specs.Day.{RunningUnit, most_running, rising_in_range}

unfoldable pub units_formed : List RunningUnit → Bool
units_formed rs = leb (length rs) most_running && rising_in_range 0 rs
