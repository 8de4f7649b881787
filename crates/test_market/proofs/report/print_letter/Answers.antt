-- The letter of a row: its cells, and those of the clearing row, are among the rows lent. Assumes nothing.
use native.Mathlib.Omega.{arith}
use Rattle.offers.proofs.CellLaws.{row-cells}
use Rattle.test_market.proofs.report.print_letter.Goals as goal

pub is_relevant-requires-clause-supply_row_at : goal.is_relevant-requires-clause-supply_row_at
is_relevant-requires-clause-supply_row_at g c = row-cells _ _ _ c.requires.supply_cells (omega arith)

pub is_relevant-requires-clause-supply_row_at_2 : goal.is_relevant-requires-clause-supply_row_at_2
is_relevant-requires-clause-supply_row_at_2 g c = row-cells _ _ _ c.requires.supply_cells (omega arith)

pub is_eligible-requires : goal.is_eligible-requires
is_eligible-requires g c = row-cells _ _ _ c.requires.supply_cells (omega arith)
