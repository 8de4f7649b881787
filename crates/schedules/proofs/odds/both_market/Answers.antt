-- Whether two rows are market-based. Assumes nothing.
use native.Mathlib.Omega.{arith}
use Rattle.schedules.proofs.OddsLaws.{market-not, market-first}
use Rattle.schedules.proofs.odds.both_market.Goals as goal

pub returns-then-cell-ne-M : goal.returns-then-cell-ne-M
returns-then-cell-ne-M c = market-not _ _ (omega arith)

pub returns : goal.returns
returns c = market-first _ _ c.cell-2.result (omega arith) (omega arith)
