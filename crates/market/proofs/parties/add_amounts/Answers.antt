-- The amounts, one party a turn. Assumes nothing.
use Rattle.std.proofs.Common.{◌≡◌, arith, rules, tests}
use Rattle.offers.specs.promises.Ranges.{SupplyRowAt}
use Rattle.offers.proofs.CellLaws.{row-cells}
use Rattle.market.specs.Parties.{amount_of}
use Rattle.market.proofs.ListingLaws.{filling-none, filling-next}
use Rattle.market.proofs.parties.add_amounts.Goals as goal

pub loop-i-init : goal.loop-i-init
loop-i-init c = filling-none _ _ _

pub supply_of-requires-clause-callable : goal.supply_of-requires-clause-callable
supply_of-requires-clause-callable c =
    let clearing : SupplyRowAt c.args.cells.now c.args.clearing = row-cells c.args.n _ _ c.requires.supply_cells (omega arith) in
    λ k h. let row : SupplyRowAt c.args.cells.now k = row-cells _ _ k c.requires.supply_cells h in search rules

pub loop-i-preserved : goal.loop-i-preserved
unfolding amount_of
loop-i-preserved c = let loop = c.loop-i in
    filling-next _ c.args.parties.now _ _ loop.i _ (omega arith) (omega arith) (c.supply_of.ensures _ (λ k b h e. search (rules, tests))) loop.invariant

pub returns : goal.returns
returns c = let loop = c.loop-i in
    let all : loop.i ≡ c.args.count = omega arith in
    rw all at loop.invariant.filled
