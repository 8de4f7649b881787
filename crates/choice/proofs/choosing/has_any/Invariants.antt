-- The search for a schedule of some kinds, along the rows of the unit's key. Assumes nothing.
use Rattle.links.specs.promises.Links.{Along}
use Rattle.choice.proofs.ChoiceLaws.{offers_at}
use Rattle.choice.proofs.choosing.has_any.Given as goal

abbrev pub invariant-loop-left : goal.invariant-loop-left
invariant-loop-left l = Along (offers_at l.n l.cells l.unit l.hour l.kinds) l.n l.links l.left

abbrev pub decreases-loop-left : goal.decreases-loop-left
decreases-loop-left l = l.left
