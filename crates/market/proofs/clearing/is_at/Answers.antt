-- Whether a row is eligible and of another's cost. Assumes nothing.
use Rattle.market.specs.promises.Narrowing.{eligible_at}
use Rattle.market.proofs.clearing.is_at.Goals as goal

pub returns-then-is_eligible : goal.returns-then-is_eligible
unfolding eligible_at
returns-then-is_eligible c = simp (
  ← c.is_eligible.ensures,
  c.if-is_eligible.true,
  c.cost_beside.ensures,
  c.cost_beside-then-is_eligible.ensures,
)

pub returns : goal.returns
unfolding eligible_at
returns c = simp (← c.is_eligible.ensures, c.if-is_eligible.false)
