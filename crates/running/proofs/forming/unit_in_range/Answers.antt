-- A unit's numbers by the ranges of their columns. Assumes nothing.
use Rattle.outcome.specs.Day.{unit_in_range}
use Rattle.running.proofs.FormingLaws.{range-unit, range-schedule}
use Rattle.running.proofs.forming.unit_in_range.Goals as goal

pub returns-then-in_column : goal.returns-then-in_column
unfolding unit_in_range
returns-then-in_column c = rw (← range-unit _ _ _ c.first_column-first.ensures c.in_column.ensures, c.if-in_column.true) (range-schedule _ _ _ c.first_column-first.ensures c.in_column-then-in_column.ensures)

pub returns : goal.returns
unfolding unit_in_range
returns c = rw (← range-unit _ _ _ c.first_column-first.ensures c.in_column.ensures, c.if-in_column.false)
