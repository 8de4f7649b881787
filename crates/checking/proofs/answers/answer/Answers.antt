-- The answer by what is at fault, arm by arm. Assumes nothing.
use Rattle.checking.proofs.answers.answer.Goals as goal

pub returns-in-Some : goal.returns-in-Some
returns-in-Some c = rw (c.refused.ensures, c.in-Some.is)

pub returns-in-None : goal.returns-in-None
returns-in-None c = rw c.in-None.is
