-- The rows, one unit a turn. Assumes nothing.
use Rattle.std.proofs.lemmas.Bool.{not_from_true, not_from_false}
use mathlib.Core.Path.{refl}
use native.Mathlib.Omega.{arith}
use Rattle.decision.proofs.LayingLaws.{laying-without-cost, laying-next, laying-over}
use Rattle.decision.proofs.deciding.choose_rows.Goals as goal

pub returns-then-not-choose_row : goal.returns-then-not-choose_row
returns-then-not-choose_row c = let loop = c.loop-i in
    laying-without-cost _ _ _ _ _ _ _ loop.i loop.invariant (omega arith) _ refl _ c.day_kind-day.ensures c.choose_row.ensures (not_from_false _ c.if-not-choose_row.true) _

pub loop-i-preserved : goal.loop-i-preserved
loop-i-preserved c = let loop = c.loop-i in
    laying-next _ _ _ _ _ _ _ loop.i loop.invariant (omega arith) _ refl _ c.day_kind-day.ensures c.choose_row.ensures _ refl (not_from_true _ c.if-not-choose_row.false)

pub returns : goal.returns
returns c = laying-over _ _ _ _ _ _ _ c.loop-i.i c.loop-i.invariant (omega arith)
