-- Read alone in arrays that have room for the longest, then copied. Assumes nothing.
use native.Mathlib.Omega.{arith}
use Rattle.std.proofs.lemmas.Result.{err_from_is_err_and}
use Rattle.checking.proofs.Rooms.{supply-room}
use Rattle.tidy.proofs.FileLaws.{supply-refused, supply-copied}
use Rattle.tidy.proofs.files.tidy_supply.Goals as goal

pub read_supply-requires : goal.read_supply-requires
read_supply-requires c = record { room_in_bounds = omega (arith, supply-room); most_units_in_bounds = omega arith }

pub returns-in_err-read_supply : goal.returns-in_err-read_supply
returns-in_err-read_supply c =
    let p = err_from_is_err_and c.from_residual.result c.from_residual.ensures.1 in
    rw (p.1, p.2) (supply-refused _ _ _ _ c.read_supply.ensures c.in_err-read_supply.was)

pub returns : goal.returns
returns c =
    supply-copied _ _ _ _ c.read_supply.ensures
    c.in_ok-read_supply.was
    c.copy_file.ensures
