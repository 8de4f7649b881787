-- The constant is the definition's. Assumes nothing.
use native.Mathlib.Omega.{arith}
use Rattle.tidy.proofs.HowLong.{longest-schedules-is}
use Rattle.tidy.proofs.longest.longest_schedules.Goals as goal

pub returns : goal.returns
returns c = omega (arith, longest-schedules-is)
