-- By the hour. Assumes nothing.
use Rattle.capping.specs.Days.{hour_cells}
use Rattle.capping.proofs.days.hour_or_zero.Goals as goal

pub returns-in-None : goal.returns-in-None
unfolding hour_cells
returns-in-None c = rw c.in-None.is

pub returns-in-Some : goal.returns-in-Some
unfolding hour_cells
returns-in-Some c = rw c.in-Some.is
