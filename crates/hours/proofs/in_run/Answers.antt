-- Whether an hour is in a run. Assumes nothing.
use borrow.Author.Tests.{le-leb, lt-leb}
use Rattle.hours.specs.Hours.{in_run}
use Rattle.hours.proofs.in_run.Goals as goal

pub returns-then-k-hour : goal.returns-then-k-hour
unfolding in_run
returns-then-k-hour c = simp (lt-leb _ _ c.if-k-hour.true)

pub returns : goal.returns
unfolding in_run
returns c = simp (le-leb _ _ c.if-k-hour.false, c.run_end.ensures)
