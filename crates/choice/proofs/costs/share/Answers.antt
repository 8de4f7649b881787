-- What a row adds to the cost of a run. Assumes nothing.
use mathlib.Core.Path.{sym, ◌∙◌}
use native.Mathlib.Omega.{arith}
use Rattle.choice.proofs.CostLaws.{share-unit, share-schedule, share_in, share-out}
use Rattle.choice.proofs.costs.share.Goals as goal

pub returns-then-cell : goal.returns-then-cell
returns-then-cell c = share-unit _ _ _ _ (omega arith)

pub returns-then-cell-2 : goal.returns-then-cell-2
returns-then-cell-2 c = share-schedule _ _ _ _ (omega arith) (omega arith)

pub returns-then-in_run : goal.returns-then-in_run
returns-then-in_run c = c.hour_cost.ensures ∙ sym (share_in _ _ _ _ (omega arith) (omega arith) (omega arith) (omega arith) (sym c.in_run.ensures ∙ c.if-in_run.true))

pub returns : goal.returns
returns c = sym (share-out _ _ _ _ (omega arith) (omega arith) (omega arith) (omega arith) (sym c.in_run.ensures ∙ c.if-in_run.false))
