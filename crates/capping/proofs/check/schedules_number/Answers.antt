-- Schedules checked in arrays that have room for the longest. Assumes nothing.
use native.Mathlib.Omega.{arith}
use Rattle.checking.proofs.Rooms.{schedules-room}
use Rattle.links.proofs.LinkLaws.{unlinked}
use Rattle.capping.proofs.CheckLaws.{schedules-number, schedules-zero}
use borrow.Author.Rules.{rules}
use Rattle.capping.proofs.check.schedules_number.Goals as goal

pub check_schedules-reading-requires : goal.check_schedules-reading-requires
check_schedules-reading-requires c = record { market_fits = search rules; room_in_bounds = omega (arith, schedules-room); links_length_in_bounds = omega arith; unlinked = unlinked 5111 }

pub returns-in-Err : goal.returns-in-Err
returns-in-Err c = schedules-number _ _ _ _ c.check_schedules-reading.ensures c.in-Err.is

pub returns-in-Ok : goal.returns-in-Ok
returns-in-Ok c = schedules-zero _ _ _ _ c.check_schedules-reading.ensures c.in-Ok.is
