-- Eligible supply. Assumes nothing.
use Rattle.std.proofs.Common.{rules, tests}
use Rattle.offers.specs.promises.Ranges.{SupplyRowAt}
use Rattle.offers.proofs.CellLaws.{row-cells}
use Rattle.market.specs.Clearing.{eligible_supply}
use Rattle.market.proofs.clearing.eligible_supply.Goals as goal

pub supply_of-requires-clause-callable : goal.supply_of-requires-clause-callable
supply_of-requires-clause-callable c = λ k h. let row : SupplyRowAt c.args.cells.now k = row-cells _ _ k c.requires h in search rules

pub returns : goal.returns
unfolding eligible_supply
returns c = c.supply_of.ensures _ (λ k b h e. search (rules, tests))
