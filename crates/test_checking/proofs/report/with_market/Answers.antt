-- The arrays have room for the longest schedules. Assumes nothing.
use native.Mathlib.Omega.{arith}
use Rattle.checking.proofs.Rooms.{schedules-room}
use Rattle.links.proofs.LinkLaws.{unlinked}
use Rattle.test_checking.proofs.report.with_market.Goals as goal

pub check_schedules-reading-requires-clause-room_in_bounds : goal.check_schedules-reading-requires-clause-room_in_bounds
check_schedules-reading-requires-clause-room_in_bounds g c = omega (arith, schedules-room)

pub check_schedules-reading-requires-clause-unlinked : goal.check_schedules-reading-requires-clause-unlinked
check_schedules-reading-requires-clause-unlinked g c = unlinked 5111
