-- Read alone in arrays that have room for the longest, then copied. Assumes nothing.
use native.Mathlib.Omega.{arith}
use Rattle.std.proofs.lemmas.Result.{err_from_is_err_and}
use Rattle.checking.proofs.Rooms.{schedules-room}
use Rattle.links.proofs.LinkLaws.{unlinked}
use Rattle.tidy.proofs.FileLaws.{schedules-refused, schedules-copied}
use Rattle.tidy.proofs.files.tidy_schedules.Goals as goal

pub read_schedules-requires : goal.read_schedules-requires
read_schedules-requires c = record { room_in_bounds = omega (arith, schedules-room); links_length_in_bounds = omega arith; unlinked = unlinked 5111 }

pub returns-in_err-read_schedules : goal.returns-in_err-read_schedules
returns-in_err-read_schedules c =
    let p = err_from_is_err_and c.from_residual.result c.from_residual.ensures.1 in
    rw (p.1, p.2) (schedules-refused _ _ _ _ c.read_schedules.ensures c.in_err-read_schedules.was)

pub returns : goal.returns
returns c =
    schedules-copied _ _ _ _ c.read_schedules.ensures
    c.in_ok-read_schedules.was
    c.copy_file.ensures
