-- A number put in its place, behind which the others have moved. Assumes nothing.
use native.Mathlib.Omega.{arith}
use Rattle.numbers.proofs.InsertLaws.{moved_up}
use Rattle.numbers.proofs.inserting.put_at.Goals as goal

pub returns : goal.returns
returns c = rw (c.copy_within.ensures.after) (moved_up _ _ _ _ (omega arith) (omega arith))
