-- The choice, along the rows of the unit's key. Assumes nothing.
use Rattle.std.specs.Prelude.{None}
use Rattle.links.proofs.LinkLaws.{Walk}
use Rattle.choice.proofs.ChoiceLaws.{weighed_at}
use Rattle.choice.proofs.choosing.choose.Given as goal

abbrev pub invariant-loop-left : goal.invariant-loop-left
invariant-loop-left l = Walk (weighed_at l.n l.cells l.unit l.hour l.kinds (l.day)) None l.n l.links l.best l.left

abbrev pub decreases-loop-left : goal.decreases-loop-left
decreases-loop-left l = l.left
