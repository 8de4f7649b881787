-- The last hour of a run. Assumes nothing.
use native.Mathlib.Omega.{arith}
use Rattle.hours.specs.Hours.{run_end}
use Rattle.hours.proofs.run_end.Goals as goal

pub returns-then-end-lt-LAST_HOUR : goal.returns-then-end-lt-LAST_HOUR
unfolding run_end
returns-then-end-lt-LAST_HOUR c = omega arith

pub returns-else-end-lt-LAST_HOUR : goal.returns-else-end-lt-LAST_HOUR
unfolding run_end
returns-else-end-lt-LAST_HOUR c = omega arith
