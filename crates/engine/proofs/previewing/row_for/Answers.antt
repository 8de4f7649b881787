-- The search for a unit's row. Assumes nothing.
use mathlib.Core.Path.{◌≡◌}
use native.Mathlib.Omega.{arith}
use Rattle.cells.specs.promises.Views.{answer_at}
use Rattle.engine.proofs.PreviewLaws.{seeking-here, seeking-next, seeking-over}
use Rattle.engine.proofs.previewing.row_for.Goals as goal

pub returns-then-cell-unit : goal.returns-then-cell-unit
returns-then-cell-unit c =
    let loop = c.loop-i in
    let args = c.args in
    let its-unit : (answer_at args.rows.now loop.i).unit ≡ args.unit = omega (arith, c.cell.ensures, c.if-cell-unit.true) in
    rw (c.row_at.ensures, seeking-here _ _ _ loop.i loop.invariant (omega arith) its-unit)

pub loop-i-preserved : goal.loop-i-preserved
loop-i-preserved c =
    let loop = c.loop-i in
    seeking-next _ _ _ loop.i loop.invariant (omega arith) (λ e. omega (arith, e, c.cell.ensures, c.if-cell-unit.false))

pub returns : goal.returns
returns c = rw (c.bare.ensures, seeking-over _ _ _ c.loop-i.i c.loop-i.invariant (omega arith))
