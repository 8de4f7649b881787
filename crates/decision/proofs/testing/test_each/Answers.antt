-- The tests, one unit a turn. Assumes nothing.
use native.Mathlib.Omega.{arith}
use Rattle.market.proofs.ListingLaws.{filling-next}
use Rattle.decision.proofs.UnitLaws.{unit-there}
use Rattle.decision.proofs.testing.test_each.Goals as goal

pub test_unit-test-requires : goal.test_unit-test-requires
test_unit-test-requires c =
    record { market_cells = c.requires.market_cells; stands = c.requires.stands; cells_value = unit-there _ _ _ _ c.requires.units_of (omega arith) }

pub loop-i-preserved : goal.loop-i-preserved
loop-i-preserved c = let loop = c.loop-i in
    let units = c.requires.units_of in
    (loop.invariant.0, filling-next _ _ _ _ loop.i _ (omega (arith, units.there)) (omega (arith, loop.invariant.0, units.few)) c.test_unit-test.ensures loop.invariant.1)
