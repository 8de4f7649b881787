-- Whether a point breaks the order of its curve. Assumes nothing.
use native.Mathlib.Omega.{arith}
use Rattle.curves.proofs.PointLaws.{breaks-none, breaks-mw, breaks-price, breaks-count}
use Rattle.curves.proofs.ordering.breaks.Goals as goal

pub returns-then-last-eq0 : goal.returns-then-last-eq0
returns-then-last-eq0 c = breaks-none _ _ _ _ (omega arith)

pub returns-then-cell : goal.returns-then-cell
returns-then-cell c = breaks-mw _ _ _ _ (omega arith) (omega arith)

pub returns-then-cell-2 : goal.returns-then-cell-2
returns-then-cell-2 c = breaks-price _ _ _ _ (omega arith) (omega arith) (omega arith)

pub returns : goal.returns
returns c = breaks-count _ _ _ _ (omega arith) (omega arith) (omega arith)
