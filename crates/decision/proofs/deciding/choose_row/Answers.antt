-- One unit's row. Assumes nothing.
use mathlib.Core.Path.{refl}
use native.Mathlib.Omega.{arith}
use Rattle.decision.proofs.ChoosingLaws.{row-without-cost, row-chosen}
use Rattle.decision.proofs.deciding.choose_row.Goals as goal

pub returns-then-lacks_cost : goal.returns-then-lacks_cost
returns-then-lacks_cost c = row-without-cost _ _ _ _ _ _ c.lacks_cost.ensures c.if-lacks_cost.true refl

pub returns : goal.returns
returns c = row-chosen _ _ _ _ _ _ c.lacks_cost.ensures c.if-lacks_cost.false (omega arith) _ c.choose_for-choice.ensures c.lay_row.ensures
