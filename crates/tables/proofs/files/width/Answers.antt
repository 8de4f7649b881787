-- The columns of each file, counted. Assumes nothing.
use Rattle.tables.specs.Table.{width, constraint_columns, supply_columns, schedules_columns, curves_columns, parents_columns}
use Rattle.tables.proofs.files.width.Goals as goal

pub returns-in-Constraint : goal.returns-in-Constraint
unfolding width constraint_columns
returns-in-Constraint c = rw c.in-Constraint.is

pub returns-in-Supply : goal.returns-in-Supply
unfolding width supply_columns
returns-in-Supply c = rw c.in-Supply.is

pub returns-in-Schedules : goal.returns-in-Schedules
unfolding width schedules_columns
returns-in-Schedules c = rw c.in-Schedules.is

pub returns-in-Curves : goal.returns-in-Curves
unfolding width curves_columns
returns-in-Curves c = rw c.in-Curves.is

pub returns-in-Parents : goal.returns-in-Parents
unfolding width parents_columns
returns-in-Parents c = rw c.in-Parents.is
