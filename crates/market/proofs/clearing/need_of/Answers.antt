-- The need of a relief. Assumes nothing.
use native.Mathlib.Omega.{arith}
use Rattle.tables.specs.Table.{constraint_columns, supply_columns, schedules_columns}
use Rattle.tables.specs.promises.Columns.{all_columns, column_at}
use Rattle.market.specs.Clearing.{need_of}
use Rattle.market.proofs.clearing.need_of.Goals as goal

pub overflow_mul-result : goal.overflow_mul-result
unfolding column_at all_columns constraint_columns supply_columns schedules_columns
overflow_mul-result c = omega arith

pub returns : goal.returns
unfolding need_of
returns c = omega arith
