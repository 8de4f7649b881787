-- Units and suppliers counted, one row a turn. Assumes nothing.
use mathlib.Core.Path.{sym, ◌∙◌}
use native.Mathlib.Omega.{arith}
use Rattle.supply.proofs.SupplyLaws.{counting-none, counting-next, counting-here, counting-over}
use Rattle.supply.proofs.rows.over_limit.Goals as goal

pub loop-k-init : goal.loop-k-init
loop-k-init c = counting-none _ _ _ _ (omega arith) (omega arith) (omega arith)

pub returns-then-too_many : goal.returns-then-too_many
returns-then-too_many c =
    counting-here _ _ _ _ _ _ _ _ _ _ _ _ _ c.loop-k.invariant (omega arith) c.insert-unit_count.ensures
    c.insert-supplier_count.ensures
    (sym c.too_many.ensures ∙ c.if-too_many.true)

pub loop-k-preserved : goal.loop-k-preserved
loop-k-preserved c =
    counting-next _ _ _ _ _ _ _ _ _ _ _ _ _ c.loop-k.invariant (omega arith) c.insert-unit_count.ensures
    c.insert-supplier_count.ensures
    c.insert-unit_count.auto.out
    c.insert-supplier_count.auto.out
    (sym c.too_many.ensures ∙ c.if-too_many.false)

pub returns : goal.returns
returns c = counting-over _ _ _ _ _ _ _ _ _ c.loop-k.invariant (omega arith)
