-- The better of an earlier choice and one schedule more. Assumes nothing.
use Rattle.choice.specs.Choosing.{kept}
use Rattle.choice.proofs.choices.kept.Goals as goal

pub returns-in-None : goal.returns-in-None
unfolding kept
returns-in-None c = simp c.in-None.is

pub returns-then-better : goal.returns-then-better
unfolding kept
returns-then-better c = simp (c.in-Some.is, ← c.better.ensures, c.if-better.true)

pub returns-else-better : goal.returns-else-better
unfolding kept
returns-else-better c = simp (c.in-Some.is, ← c.better.ensures, c.if-better.false)
