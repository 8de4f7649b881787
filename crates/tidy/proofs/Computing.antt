-- What opens the definitions of this crate, for examples that compute. Assumes nothing.
use Rattle.base.specs.Text.{together, written}
use Rattle.tables.specs.Refusals.{unless}
use Rattle.tidy.specs.Tidy.{shown_as, shown, shown_row, tidy_text, tidy_of, short_for_tidy, tidy_refusals, tidying, tidied}

unfoldable pub tidy_all : Unit {0}
unfolding together shown_as shown shown_row tidy_text tidy_of
tidy_all = tt

unfoldable pub tidying_all : Unit {0}
unfolding tidy_all written unless short_for_tidy tidy_refusals tidying tidied
tidying_all = tt
