-- How the market stands. Assumes nothing.
use mathlib.Core.List.{[]}
use native.Mathlib.Omega.{arith}
use Rattle.decision.proofs.StandingLaws.{relief-fits, is-enough, stands-short, stands-cleared, count-few, clears-inside}
use Rattle.decision.proofs.standing.stand.Goals as goal

pub need_of-need-requires : goal.need_of-need-requires
need_of-need-requires c = relief-fits _ _ _ c.requires.market_cells

pub returns-then-eligible_supply-need : goal.returns-then-eligible_supply-need
returns-then-eligible_supply-need c = stands-short _ _ _ _ c.eligible_supply.ensures c.need_of-need.ensures c.if-eligible_supply-need.true _ _

pub add_amounts-requires : goal.add_amounts-requires
add_amounts-requires c =
    let enough = is-enough _ _ _ _ c.eligible_supply.ensures c.need_of-need.ensures (omega arith) in
    let few = count-few _ _ _ c.requires.market_cells enough _ _ _ _ [] [] _ c.need_of-need.ensures c.clearing_row-row.ensures c.list_parties-count.ensures in
    record { supply_cells = c.requires.market_cells.rows; clearing_lt_n = clears-inside _ _ _ c.requires.market_cells enough _ _ _ _ [] [] _ c.need_of-need.ensures c.clearing_row-row.ensures c.list_parties-count.ensures; count_in_bounds = omega arith; count_in_bounds_2 = omega arith }

pub returns : goal.returns
returns c = let enough = is-enough _ _ _ _ c.eligible_supply.ensures c.need_of-need.ensures (omega arith) in
    stands-cleared _ _ _ c.requires.market_cells enough _ _ _ _ _ _ _ c.need_of-need.ensures c.clearing_row-row.ensures c.list_parties-count.ensures c.add_amounts.ensures
