-- Which of two schedules is to be taken. Assumes nothing.
use mathlib.Core.Path.{sym}
use native.Mathlib.Omega.{arith}
use Rattle.choice.proofs.LeastLaws.{better-cheaper, better-same, better-dearer}
use Rattle.choice.proofs.choices.better.Goals as goal

pub returns-then-a-b : goal.returns-then-a-b
returns-then-a-b c = sym (better-cheaper _ _ (omega arith))

pub returns-then-a-b-2 : goal.returns-then-a-b-2
returns-then-a-b-2 c = sym (better-same _ _ (omega arith))

pub returns : goal.returns
returns c = sym (better-dearer _ _ (omega arith))
