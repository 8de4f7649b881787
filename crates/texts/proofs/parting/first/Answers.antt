-- The part up to the first stop. Assumes nothing.
use Rattle.texts.proofs.PartingLaws.{part-before}
use Rattle.texts.proofs.parting.first.Goals as goal

pub returns : goal.returns
returns c = part-before _ _ _ c.end-e.ensures.value
