-- The clearing row: the first of the rows of the clearing cost. Assumes nothing.
use mathlib.Core.Path.{◌∙◌}
use native.Mathlib.Omega.{arith}
use Rattle.market.proofs.NarrowingLaws.{clears-nothing}
use Rattle.market.proofs.TryLaws.{first-clears, none-clears}
use Rattle.market.proofs.clearing.clearing_row.Goals as goal

pub returns-then-need-eq0 : goal.returns-then-need-eq0
returns-then-need-eq0 c = none-clears _ _ _ _ (clears-nothing _ _ (omega arith) _)

pub returns-then-n-row : goal.returns-then-n-row
returns-then-n-row c = none-clears _ _ _ _ (c.clearing_cost-row.ensures.none-clears (omega arith))

pub returns : goal.returns
returns c =
    c.first_at.ensures
    ∙ first-clears _ _ _ _ _ (c.clearing_cost-row.ensures.at-cost (omega arith))
