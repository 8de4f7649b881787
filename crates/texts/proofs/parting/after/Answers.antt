-- The part from behind the first stop on. Assumes nothing.
use borrow.Author.Rules.{rules}
use Rattle.texts.proofs.PartingLaws.{part-past}
use Rattle.texts.proofs.parting.after.Goals as goal

pub returns : goal.returns
returns c = part-past _ _ _ (search rules)
