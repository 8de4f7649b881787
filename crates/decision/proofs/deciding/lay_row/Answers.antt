-- A row's seven cells. Assumes nothing.
use native.Mathlib.Omega.{arith}
use lib.ListN.{length-set}
use Rattle.decision.proofs.ChoosingLaws.{laid-seven}
use Rattle.decision.proofs.deciding.lay_row.Goals as goal

pub bounds-row-1 : goal.bounds-row-1
bounds-row-1 c = simp length-set (omega arith)

pub bounds-row-2 : goal.bounds-row-2
bounds-row-2 c = simp length-set (omega arith)

pub bounds-row-3 : goal.bounds-row-3
bounds-row-3 c = simp length-set (omega arith)

pub bounds-row-4 : goal.bounds-row-4
bounds-row-4 c = simp length-set (omega arith)

pub bounds-row-5 : goal.bounds-row-5
bounds-row-5 c = simp length-set (omega arith)

pub returns : goal.returns
returns c = rw (← c.letter_of.ensures) (laid-seven c.args.row.now _ _ _ _ _ _ _ (omega arith))
