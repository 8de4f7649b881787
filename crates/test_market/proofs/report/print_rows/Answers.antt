-- The rows, one a turn. Assumes nothing.
use native.Mathlib.Omega.{arith}
use Rattle.offers.proofs.CellLaws.{row-cells}
use Rattle.test_market.proofs.report.print_rows.Goals as goal

pub effective_supply-requires : goal.effective_supply-requires
effective_supply-requires g c = row-cells _ _ _ c.requires (omega arith)
