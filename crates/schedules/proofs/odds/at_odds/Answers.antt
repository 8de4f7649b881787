-- Whether two rows are at odds. Assumes nothing.
use mathlib.Core.Path.{◌∙◌}
use native.Mathlib.Omega.{arith}
use Rattle.schedules.proofs.OddsLaws.{odds-units, odds-schedules, odds-hours, odds-alike}
use Rattle.schedules.proofs.odds.at_odds.Goals as goal

pub returns-then-cell : goal.returns-then-cell
returns-then-cell c = odds-units _ _ (omega arith)

pub returns-then-cell-2 : goal.returns-then-cell-2
returns-then-cell-2 c = c.both_market.ensures ∙ odds-schedules _ _ (omega arith) (omega arith)

pub returns-then-cell-3 : goal.returns-then-cell-3
returns-then-cell-3 c = odds-hours _ _ (omega arith) (omega arith) (omega arith)

pub returns : goal.returns
returns c = c.unlike.ensures ∙ odds-alike _ _ (omega arith) (omega arith) (omega arith)
