-- A unit's test in a market that is not short. Assumes nothing.
use Rattle.std.proofs.Common.{rules, tests}
use Rattle.numbers.proofs.SearchLaws.{place-told}
use Rattle.offers.specs.promises.Ranges.{SupplyRowAt}
use Rattle.offers.proofs.CellLaws.{row-cells}
use Rattle.decision.proofs.StandingLaws.{relief-fits}
use Rattle.decision.proofs.TestingLaws.{market-clears, party-tested, party-not-refused, relevant-wanted, test-failed, test-passed}
use Rattle.decision.proofs.testing.test_in_market.Goals as goal

pub supplier-own-requires : goal.supplier-own-requires
supplier-own-requires c = row-cells _ _ _ c.requires.market_cells.rows c.requires.unit_found.within

pub party-requires : goal.party-requires
party-requires c = row-cells _ _ _ c.requires.market_cells.rows c.requires.unit_found.within

pub need_of-requires : goal.need_of-requires
need_of-requires c = relief-fits _ _ _ c.requires.market_cells

pub has_wanted-exposed-requires-clause-callable : goal.has_wanted-exposed-requires-clause-callable
has_wanted-exposed-requires-clause-callable c =
    let market = c.requires.market_cells in
    let clearing : SupplyRowAt c.args.cells.now c.args.clearing = row-cells _ _ _ market.rows (market-clears _ _ _ market c.requires.in_market) in
    λ k h. let row : SupplyRowAt c.args.cells.now k = row-cells _ _ k market.rows h in search rules

pub returns-in-Fails : goal.returns-in-Fails
returns-in-Fails c =
    let market = c.requires.market_cells in
    let in-market = c.requires.in_market in
    let found = c.requires.unit_found in
    let (remains, fails) =
    party-tested _ _ _ market in-market _ _ found c.party.ensures (place-told _ _ c.place_of.ensures c.unwrap_or-place.ensures) c.need_of.ensures c.test-outcome.ensures c.in-Some.is c.in-Fails.is
    in
    test-failed _ _ _ _ found.found _ c.supplier-own.ensures in-market.enough _ remains fails _ (relevant-wanted _ _ _ market in-market _ _ (c.has_wanted-exposed.ensures _ (λ k b h e. search (rules, tests))))

pub returns-in-Passes : goal.returns-in-Passes
returns-in-Passes c =
    let in-market = c.requires.in_market in
    let found = c.requires.unit_found in
    let (remains, passes) =
    party-tested _ _ _ c.requires.market_cells in-market _ _ found c.party.ensures (place-told _ _ c.place_of.ensures c.unwrap_or-place.ensures) c.need_of.ensures c.test-outcome.ensures c.in-Some.is c.in-Passes.is
    in
    test-passed _ _ _ _ found.found _ c.supplier-own.ensures in-market.enough _ remains passes

pub returns-in-None : goal.returns-in-None
returns-in-None c =
    absurd
    (party-not-refused _ _ _ c.requires.market_cells c.requires.in_market _ _ c.requires.unit_found c.party.ensures (place-told _ _ c.place_of.ensures c.unwrap_or-place.ensures) c.need_of.ensures c.test-outcome.ensures c.in-None.is)
