-- What opens the definitions of this crate, for examples that compute. Assumes nothing.
use Rattle.checking.specs.Files.{rows_as_cells, constraint_of, supply_of, schedules_of, or_header, curves_of, parents_of, scheduled_of, groups_of, point_refusals, affiliate_refusals, alone_refusals, market_refusals, schedules_refusals, curves_refusals, units_refusals, beside_refusals, check_refusals, check_refusal, check_number}

unfoldable pub files_all : Unit {0}
unfolding rows_as_cells constraint_of supply_of schedules_of or_header curves_of parents_of scheduled_of groups_of point_refusals affiliate_refusals alone_refusals market_refusals schedules_refusals curves_refusals units_refusals beside_refusals check_refusals check_refusal check_number
files_all = tt
