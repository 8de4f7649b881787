-- Whether a row is at or below another's cost and eligible. Assumes nothing.
use mathlib.Core.Bool.{and-false, and-true}
use borrow.Author.Tests.{le-leb, lt-leb}
use Rattle.offers.specs.Supply.{at_most}
use Rattle.market.specs.Clearing.{eligible_up_to}
use Rattle.market.proofs.parts.is_up_to.Goals as goal

pub returns-then-cost_beside : goal.returns-then-cost_beside
unfolding eligible_up_to at_most
returns-then-cost_beside c = simp (
  ← c.cost_beside.ensures,
  ← c.cost_beside-2.ensures,
  le-leb _ _ c.if-cost_beside.true,
  c.is_eligible.ensures,
  and-true,
)

pub returns : goal.returns
unfolding eligible_up_to at_most
returns c = simp (
  ← c.cost_beside.ensures,
  ← c.cost_beside-2.ensures,
  lt-leb _ _ c.if-cost_beside.false,
  and-false,
)
