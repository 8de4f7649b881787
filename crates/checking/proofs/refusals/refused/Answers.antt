-- A refusal by its number, file and place. Assumes nothing.
use Rattle.checking.proofs.refusals.refused.Goals as goal

pub returns : goal.returns
returns c = rw c.number.ensures
