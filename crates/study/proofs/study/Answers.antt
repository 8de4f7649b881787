-- The room holds the longest answer. Assumes nothing.
use native.Mathlib.Omega.{arith}
use Rattle.longest.proofs.HowLong.{longest-is}
use Rattle.study.proofs.study.Goals as goal

pub study_in_room-answer-requires : goal.study_in_room-answer-requires
study_in_room-answer-requires g c = omega (arith, longest-is)
