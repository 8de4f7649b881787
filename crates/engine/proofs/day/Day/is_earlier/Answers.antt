-- An hour beside the day's. Assumes nothing.
use Rattle.outcome.specs.Day.{earlier}
use Rattle.engine.specs.View.{view_of}
use Rattle.engine.proofs.day.Day.is_earlier.Goals as goal

pub returns-in-None : goal.returns-in-None
unfolding earlier view_of
returns-in-None c = rw c.in-None.is

pub returns-in-Some : goal.returns-in-Some
unfolding earlier view_of
returns-in-Some c = rw c.in-Some.is
