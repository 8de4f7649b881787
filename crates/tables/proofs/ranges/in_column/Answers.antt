-- A number by its column's minimum and maximum. Assumes nothing.
use Rattle.tables.specs.Table.{constraint_columns, supply_columns, schedules_columns, curves_columns, parents_columns}
use Rattle.tables.specs.promises.Columns.{all_columns}
use Rattle.tables.proofs.ColumnLaws.{below-column, from-minimum}
use Rattle.tables.proofs.ranges.in_column.Goals as goal

pub returns-then-x-column : goal.returns-then-x-column
unfolding all_columns constraint_columns supply_columns schedules_columns curves_columns parents_columns
returns-then-x-column c = below-column c.args.column _ c.if-x-column.true

pub returns : goal.returns
unfolding all_columns constraint_columns supply_columns schedules_columns curves_columns parents_columns
returns c = from-minimum c.args.column _ c.if-x-column.false
