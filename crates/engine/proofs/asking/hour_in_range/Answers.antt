-- An hour by the range of its column. Assumes nothing.
use Rattle.outcome.specs.Day.{hour_in_range}
use Rattle.tables.specs.Table.{constraint_columns, supply_columns, schedules_columns}
use Rattle.tables.specs.promises.Columns.{column_at, all_columns}
use Rattle.engine.proofs.asking.hour_in_range.Goals as goal

pub returns-in-None : goal.returns-in-None
unfolding hour_in_range
returns-in-None c = rw c.in-None.is

pub returns-in-Some : goal.returns-in-Some
unfolding hour_in_range column_at all_columns constraint_columns supply_columns schedules_columns
returns-in-Some c = rw c.in-Some.is (rw c.first_column.ensures at c.in_column.ensures)
