-- By the first cell. Assumes nothing.
use native.Mathlib.Omega.{arith}
use Rattle.capping.proofs.DayInLaws.{hour-none, hour-some}
use Rattle.capping.proofs.days.hour_in.Goals as goal

pub returns-then-has-eq-NO_HOUR : goal.returns-then-has-eq-NO_HOUR
returns-then-has-eq-NO_HOUR c = hour-none _ _ (omega arith)

pub returns-else-has-eq-NO_HOUR : goal.returns-else-has-eq-NO_HOUR
returns-else-has-eq-NO_HOUR c = hour-some _ _ (λ e. omega arith)
