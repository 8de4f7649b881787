-- Whether a row is of another's schedule and for an hour. Assumes nothing.
use native.Mathlib.Omega.{arith}
use Rattle.schedules.proofs.RunLaws.{at-units, at-schedules, at-hours}
use Rattle.schedules.proofs.runs.is_at.Goals as goal

pub returns-then-cell : goal.returns-then-cell
returns-then-cell c = at-units _ _ _ (omega arith)

pub returns-then-cell-2 : goal.returns-then-cell-2
returns-then-cell-2 c = at-schedules _ _ _ (omega arith) (omega arith)

pub returns : goal.returns
returns c = at-hours _ _ _ (omega arith) c.cell-5.result (omega arith) (omega arith)
