-- The effective supply of a row. Assumes nothing.
use native.Mathlib.Omega.{arith}
use Rattle.offers.proofs.CellLaws.{supply-cells}
use Rattle.offers.proofs.RangeLaws.{supply-small}
use Rattle.offers.proofs.rows.effective_supply.Goals as goal

pub overflow_mul-result : goal.overflow_mul-result
overflow_mul-result c = omega (arith, supply-cells c.args.cells.now c.args.row _ c.abs_dfax.ensures, supply-small _ c.requires.permitted)

pub returns : goal.returns
returns c = supply-cells c.args.cells.now c.args.row _ c.abs_dfax.ensures
