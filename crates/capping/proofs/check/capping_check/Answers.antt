-- Constraint and supply checked in arrays that have room for the longest, then schedules. Assumes nothing.
use native.Mathlib.Omega.{arith}
use Rattle.checking.proofs.MarketLaws.{market-fits}
use Rattle.checking.proofs.Rooms.{supply-room}
use Rattle.capping.proofs.CheckLaws.{market-number, files-number}
use Rattle.capping.proofs.check.capping_check.Goals as goal

pub check_market-check-requires : goal.check_market-check-requires
check_market-check-requires c = record { room_in_bounds = omega (arith, supply-room); most_units_in_bounds = omega arith }

pub schedules_number-requires : goal.schedules_number-requires
schedules_number-requires c = market-fits _ _ _ _ c.check_market-check.ensures _ c.in-Ok.is (omega arith)

pub returns-in-Err : goal.returns-in-Err
returns-in-Err c = market-number _ _ _ _ c.check_market-check.ensures _ c.in-Err.is

pub returns-in-Ok : goal.returns-in-Ok
returns-in-Ok c = files-number _ _ _ _ c.check_market-check.ensures _ c.in-Ok.is _ c.schedules_number.ensures
