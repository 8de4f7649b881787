-- What opens the definitions of this crate, for examples that compute. Assumes nothing.
use Rattle.csv_text.specs.Records.{next, regular, grown, rest, rfc4180, records}

unfoldable pub reading_all : Unit {0}
unfolding next regular grown rest rfc4180 records
reading_all = tt
