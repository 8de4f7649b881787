-- Whether a point is of a row's schedule hour. Assumes nothing.
use native.Mathlib.Omega.{arith}
use Rattle.curves.proofs.PointLaws.{of-hours, of-schedules, of-units}
use Rattle.curves.proofs.placing.is_of.Goals as goal

pub returns-then-cell : goal.returns-then-cell
returns-then-cell c = of-hours _ _ (omega arith)

pub returns-then-cell-2 : goal.returns-then-cell-2
returns-then-cell-2 c = of-schedules _ _ (omega arith)

pub returns : goal.returns
returns c = of-units _ _ c.cell-5.result c.cell-6.result (omega arith) (omega arith) (omega arith) (omega arith)
