-- The units that would run, one more a turn. Assumes nothing.
use mathlib.Core.Path.{sym}
use native.Mathlib.Omega.{arith}
use Rattle.running.proofs.ViewLaws.{counted}
use Rattle.running.proofs.AskingLaws.{newcomers-most, counting-none, counting-next, counting-over}
use Rattle.running.proofs.units.Units.would_run.Goals as goal

pub loop-unit-init : goal.loop-unit-init
loop-unit-init c = counting-none _ _ _ (sym (counted _))

pub overflow_add-total : goal.overflow_add-total
overflow_add-total c =
    omega (arith, counted c.args.self, newcomers-most _ _ _ c.newcomer-total.ensures)

pub loop-unit-preserved : goal.loop-unit-preserved
loop-unit-preserved c =
    counting-next _ _ _ _ c.loop-unit.invariant _ (omega arith) c.newcomer-total.ensures

pub returns : goal.returns
returns c = counting-over _ _ _ _ c.loop-unit.invariant (omega arith)
