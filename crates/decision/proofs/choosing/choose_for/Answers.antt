-- The schedule chosen, or none. Assumes nothing.
use Rattle.decision.proofs.ChoosingLaws.{chosen-one, chosen-nothing}
use Rattle.decision.proofs.choosing.choose_for.Goals as goal

pub returns-in-Some : goal.returns-in-Some
returns-in-Some c = chosen-one c.choose.ensures _ c.in-Some.is

pub returns-in-None : goal.returns-in-None
returns-in-None c = chosen-nothing c.choose.ensures c.in-None.is
