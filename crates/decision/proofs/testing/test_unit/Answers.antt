-- A unit's test, as the market stands. Assumes nothing.
use Prim.Native.Nat.{◌-◌}
use Rattle.std.proofs.Common.{arith, rules, tests}
use Rattle.offers.specs.promises.Ranges.{SupplyRowAt}
use Rattle.offers.proofs.CellLaws.{row-cells}
use Rattle.outcome.specs.Decision.{has_eligible}
use Rattle.decision.proofs.TestingLaws.{was-short, lent-market, parties-reach, test_short}
use Rattle.decision.proofs.testing.test_unit.Goals as goal

pub supplier-requires : goal.supplier-requires
supplier-requires c = row-cells _ _ _ c.requires.market_cells.rows c.row_of-row.ensures.within

pub slice_bounds-test_in_market-end : goal.slice_bounds-test_in_market-end
slice_bounds-test_in_market-end c = (parties-reach _ _ _ _ c.requires.stands c.in-Some.is).0

pub slice_bounds-test_in_market-end-in-Some : goal.slice_bounds-test_in_market-end-in-Some
slice_bounds-test_in_market-end-in-Some c = (parties-reach _ _ _ _ c.requires.stands c.in-Some.is).1

pub test_in_market-requires : goal.test_in_market-requires
test_in_market-requires c =
    record { market_cells = c.requires.market_cells; unit_found = c.row_of-row.ensures; in_market = lent-market _ _ _ _ c.requires.stands c.in-Some.is (c.in-Some.cleared.parties - 0) (omega arith) }

pub has_wanted-requires-clause-callable : goal.has_wanted-requires-clause-callable
has_wanted-requires-clause-callable c = λ k h.
    let row : SupplyRowAt c.args.cells.now k = row-cells _ _ k c.requires.market_cells.rows h in search rules

pub returns-in-None : goal.returns-in-None
unfolding has_eligible
returns-in-None c = test_short _ _ _ _ c.row_of-row.ensures.found _ c.supplier.ensures (was-short _ _ _ _ c.requires.stands c.in-None.is) _ (c.has_wanted.ensures _ (λ k b h e. search (rules, tests)))
