-- The arrays have room for the longest supply, and the market fits them. Assumes nothing.
use native.Mathlib.Omega.{arith}
use Rattle.checking.proofs.MarketLaws.{market-fits}
use Rattle.checking.proofs.Rooms.{supply-room}
use Rattle.test_checking.proofs.report.case.Goals as goal

pub check_market-check-requires-clause-room_in_bounds : goal.check_market-check-requires-clause-room_in_bounds
check_market-check-requires-clause-room_in_bounds g c = omega (arith, supply-room)

pub with_market-requires : goal.with_market-requires
with_market-requires g c = market-fits _ _ _ _ c.check_market-check.ensures _ c.in-Ok.is (omega arith)
