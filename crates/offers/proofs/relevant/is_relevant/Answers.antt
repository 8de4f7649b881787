-- Whether a row is relevant. Assumes nothing.
use native.Mathlib.Omega.{arith}
use Rattle.offers.specs.Relevant.{relevant}
use Rattle.offers.proofs.RangeLaws.{beside-small}
use Rattle.offers.proofs.relevant.is_relevant.Goals as goal

pub overflow_mul-result : goal.overflow_mul-result
overflow_mul-result c = omega (arith, beside-small _ _ _ c.requires.supply_row_at_2.permitted c.requires.supply_row_at.permitted c.cost_beside.ensures)

pub overflow_mul-result-then-is_eligible : goal.overflow_mul-result-then-is_eligible
overflow_mul-result-then-is_eligible c = omega (arith, beside-small _ _ _ c.requires.supply_row_at.permitted c.requires.supply_row_at_2.permitted c.cost_beside-then-is_eligible.ensures)

pub returns-then-is_eligible : goal.returns-then-is_eligible
unfolding relevant
returns-then-is_eligible c = simp (
  ← c.is_eligible.ensures,
  c.if-is_eligible.true,
  c.cost_beside.ensures,
  c.cost_beside-then-is_eligible.ensures,
)

pub returns : goal.returns
unfolding relevant
returns c = simp (← c.is_eligible.ensures, c.if-is_eligible.false)
