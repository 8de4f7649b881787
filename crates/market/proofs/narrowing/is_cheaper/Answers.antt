-- Whether one row's cost is below another's, if there are such rows. Assumes nothing.
use mathlib.Core.Bool.{and-false}
use native.Mathlib.Omega.{arith}
use borrow.Author.Tests.{lt-ltb, le-ltb}
use Rattle.market.specs.promises.Narrowing.{cheaper}
use Rattle.offers.specs.Supply.{below}
use Rattle.offers.proofs.CellLaws.{row-cells}
use Rattle.market.proofs.narrowing.is_cheaper.Goals as goal

pub cost_beside-requires : goal.cost_beside-requires
cost_beside-requires c =
    record { supply_row_at = row-cells _ _ _ c.requires (omega arith); supply_row_at_2 = row-cells _ _ _ c.requires (omega arith) }

pub cost_beside-requires-then-other-n : goal.cost_beside-requires-then-other-n
cost_beside-requires-then-other-n c =
    record { supply_row_at = row-cells _ _ _ c.requires (omega arith); supply_row_at_2 = row-cells _ _ _ c.requires (omega arith) }

pub returns-then-other-n : goal.returns-then-other-n
unfolding cheaper below
returns-then-other-n c = simp (
  lt-ltb _ _ c.if-row-n.true,
  lt-ltb _ _ c.if-other-n.true,
  c.cost_beside.ensures,
  c.cost_beside-then-other-n.ensures,
)

pub returns-else-other-n : goal.returns-else-other-n
unfolding cheaper
returns-else-other-n c = simp (le-ltb _ _ c.if-other-n.false, and-false)

pub returns-else-row-n : goal.returns-else-row-n
unfolding cheaper
returns-else-row-n c = simp (le-ltb _ _ c.if-row-n.false)
