-- The suppliers and their amounts: the lent runs have room for those of any rows. Assumes nothing.
use native.Mathlib.Omega.{arith}
use Rattle.test_market.proofs.PartyCount.{cells-parties}
use Rattle.test_market.proofs.report.print_suppliers.Goals as goal

pub list_parties-count-requires-clause-cells_in_bounds : goal.list_parties-count-requires-clause-cells_in_bounds
list_parties-count-requires-clause-cells_in_bounds g c = cells-parties _ _ c.requires.supply_cells _ (omega arith)
