-- The constant is the definition's. Assumes nothing.
use native.Mathlib.Omega.{arith}
use Rattle.longest.proofs.HowLong.{longest-is}
use Rattle.longest.proofs.longest_answer.Goals as goal

pub returns : goal.returns
returns c = omega (arith, longest-is)
