-- A row, one field a turn. Assumes nothing.
use Rattle.std.proofs.Common.{◌+◌, refl, arith}
use Rattle.onepass.proofs.RowLaws.{laying-none, laying-next, laying-over, range-fits, range-lengths}
use Rattle.onepass.proofs.rows.lay_row.Goals as goal

pub loop-c-init : goal.loop-c-init
loop-c-init c = laying-none _ _ _ _ _ c.first_column-first.ensures c.width-columns.ensures (omega (arith, c.width-columns.ensures))

pub bounds-forms-column : goal.bounds-forms-column
bounds-forms-column c = omega (arith, range-lengths _ _ _ c.requires.ranges 0)

pub bounds-minima-column : goal.bounds-minima-column
bounds-minima-column c = omega (arith, range-lengths _ _ _ c.requires.ranges 0)

pub bounds-maxima-column : goal.bounds-maxima-column
bounds-maxima-column c = omega (arith, range-lengths _ _ _ c.requires.ranges 0)

pub field-requires : goal.field-requires
field-requires c = omega (arith, range-fits _ _ _ c.requires.ranges (c.first_column-first.result + c.loop-c.c))

pub loop-c-preserved : goal.loop-c-preserved
loop-c-preserved c = laying-next _ _ _ _ _ _ _ c.loop-c.invariant _ _ _ c.in_ok-found.found _ _ (omega arith) c.requires.ranges c.in_ok-found.ensures c.in_ok-next.ensures refl

pub returns : goal.returns
returns c = laying-over _ _ _ _ _ _ _ c.loop-c.invariant _ c.first_column-first.ensures c.width-columns.ensures (omega arith)
