-- The effective cost of a row beside another's. Assumes nothing.
use native.Mathlib.Omega.{arith}
use Rattle.offers.proofs.CellLaws.{beside-cells}
use Rattle.offers.proofs.RangeLaws.{beside-small}
use Rattle.offers.proofs.rows.cost_beside.Goals as goal

pub overflow_mul-result : goal.overflow_mul-result
overflow_mul-result c = omega (
  arith,
  beside-small _ _ _ c.requires.supply_row_at.permitted c.requires.supply_row_at_2.permitted
      (beside-cells c.args.cells.now c.args.row c.args.other _ _ c.capped.ensures c.abs_dfax.ensures),
)

pub returns : goal.returns
returns c = beside-cells c.args.cells.now c.args.row c.args.other _ _ c.capped.ensures c.abs_dfax.ensures
