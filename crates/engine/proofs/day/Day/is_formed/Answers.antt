-- A day by its hour and its units. Assumes nothing.
use Rattle.engine.specs.View.{view_of}
use Rattle.engine.proofs.FormingLaws.{by_parts}
use Rattle.engine.proofs.day.Day.is_formed.Goals as goal

pub returns-then-hour_in_range : goal.returns-then-hour_in_range
unfolding view_of
returns-then-hour_in_range c = rw (by_parts, ← c.hour_in_range.ensures, c.if-hour_in_range.true) c.is_formed.ensures

pub returns-else-hour_in_range : goal.returns-else-hour_in_range
unfolding view_of
returns-else-hour_in_range c = rw (by_parts, ← c.hour_in_range.ensures, c.if-hour_in_range.false)
