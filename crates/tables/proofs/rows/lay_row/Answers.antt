-- A row, one field a turn. Assumes nothing.
use native.Mathlib.Omega.{arith}
use Rattle.tables.specs.Table.{width}
use Rattle.tables.specs.promises.Columns.{first_column}
use Rattle.tables.proofs.RowLaws.{Laying, laying-none, laying-next, laying-over, within_all}
use Rattle.tables.proofs.rows.lay_row.Goals as goal

pub loop-c-init : goal.loop-c-init
loop-c-init c =
    let f = c.args.file in
    laying-none _ _ _ _
    (rw (c.first_column-first.ensures, c.width-columns.ensures) (within_all f))
    (rw c.width-columns.ensures c.requires)

pub loop-c-preserved : goal.loop-c-preserved
loop-c-preserved c =
    rw (c.unwrap_or.ensures, c.is_some-good.ensures)
    (laying-next _ _ _ _ _ c.loop-c.rest.now _ _ c.read_field-field.result c.loop-c.invariant (omega arith) c.read_field-field.ensures)

pub returns : goal.returns
returns c =
    let l : Laying _ _ (first_column c.args.file) (width c.args.file) _ _ _ _ =
    rw (c.first_column-first.ensures, c.width-columns.ensures) at c.loop-c.invariant
    in
    laying-over _ _ _ _ _ _ _ l (omega (arith, c.width-columns.ensures))
