-- A signed number, by whether it has a minus. Assumes nothing.
use mathlib.Core.Path.{◌∙◌}
use native.Mathlib.Omega.{arith}
use Rattle.tables.proofs.Forms.{read-most, excess-blank, excess-below, excess-below-refused, excess-above, excess-above-refused}
use Rattle.tables.proofs.columns.excess.Goals as goal

pub returns-then-text-eq0 : goal.returns-then-text-eq0
returns-then-text-eq0 c = excess-blank _ _ _ c.if-text-eq0.true

pub overflow_sub-result : goal.overflow_sub-result
overflow_sub-result c = read-most _ _ _ _ c.read.ensures c.in_ok-below.was

pub returns-in_err-below : goal.returns-in_err-below
returns-in_err-below c =
    c.from_residual.ensures
    ∙ excess-below-refused _ _ _ c.if-text-eq0.false c.if-text-eq-MINUS.true c.read.ensures c.in_err-below.was

pub returns-then-text-eq-MINUS : goal.returns-then-text-eq-MINUS
returns-then-text-eq-MINUS c = excess-below _ _ _ c.if-text-eq0.false c.if-text-eq-MINUS.true c.read.ensures _ c.in_ok-below.was

pub overflow_add-result : goal.overflow_add-result
overflow_add-result c = omega (arith, read-most _ _ _ _ c.read-2.ensures c.in_ok-above.was)

pub returns-in_err-above : goal.returns-in_err-above
returns-in_err-above c =
    c.from_residual-in_err-above.ensures
    ∙ excess-above-refused _ _ _ c.if-text-eq0.false c.if-text-eq-MINUS.false c.read-2.ensures c.in_err-above.was

pub returns : goal.returns
returns c = excess-above _ _ _ c.if-text-eq0.false c.if-text-eq-MINUS.false c.read-2.ensures _ c.in_ok-above.was
