-- A row against the last of its key. Assumes nothing.
use Rattle.supply.proofs.SupplyLaws.{last_none, last-alone}
use native.Mathlib.Omega.{arith}
use Rattle.supply.proofs.rows.at_odds_with_last.Goals as goal

pub returns-then-left-eq0 : goal.returns-then-left-eq0
returns-then-left-eq0 c = let a = c.args in last_none a.cells.now a.k a.left c.requires.left_value (omega arith)

pub returns : goal.returns
returns c = let a = c.args in last-alone a.cells.now a.k a.left c.requires.left_value (omega arith) c.requires.agree_before (omega arith) _ c.at_odds.ensures
