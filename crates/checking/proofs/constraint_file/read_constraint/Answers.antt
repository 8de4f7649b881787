-- The constraint read into three cells, and its row out of these. Assumes nothing.
use native.Mathlib.Omega.{arith}
use Rattle.std.proofs.lemmas.Result.{err_from_is_err_and}
use Rattle.checking.proofs.AloneLaws.{constraint-unread, constraint-read}
use Rattle.checking.proofs.Rooms.{constraint-room}
use Rattle.checking.proofs.constraint_file.read_constraint.Goals as goal

pub read-requires : goal.read-requires
read-requires c = omega (arith, constraint-room)

pub returns-in_err-read : goal.returns-in_err-read
returns-in_err-read c =
    let p = err_from_is_err_and c.from_residual.result c.from_residual.ensures.1 in
    rw (p.1, p.2) (constraint-unread _ _ _ _ c.read.ensures c.in_err-read.was)

pub returns : goal.returns
returns c = constraint-read _ _ _ _ c.read.ensures c.in_ok-read.was
