-- Whether two rows differ in what rows of one schedule share. Assumes nothing.
use native.Mathlib.Omega.{arith}
use Rattle.schedules.proofs.OddsLaws.{unlike-kinds, unlike-startups, unlike-minruns}
use Rattle.schedules.proofs.odds.unlike.Goals as goal

pub returns-then-cell : goal.returns-then-cell
returns-then-cell c = unlike-kinds _ _ (omega arith)

pub returns-then-cell-2 : goal.returns-then-cell-2
returns-then-cell-2 c = unlike-startups _ _ (omega arith) (omega arith)

pub returns : goal.returns
returns c = unlike-minruns _ _ (omega arith) c.cell-5.result c.cell-6.result (omega arith) (omega arith) (omega arith)
