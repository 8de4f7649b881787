-- Three stores in a row. Assumes nothing.
use native.Mathlib.Omega.{arith}
use lib.ListN.{length-set}
use Rattle.capping.proofs.LayingLaws.{three-stored}
use Rattle.capping.proofs.days.lay_place.Goals as goal

pub bounds-cells-at-2 : goal.bounds-cells-at-2
bounds-cells-at-2 c = simp length-set (omega arith)

pub bounds-cells-at-3 : goal.bounds-cells-at-3
bounds-cells-at-3 c = simp length-set (omega arith)

pub returns : goal.returns
returns c = three-stored _ _ _ (omega arith) (omega arith)
