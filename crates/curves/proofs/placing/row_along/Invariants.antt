-- The row of a point, along the rows of its schedule's key. Assumes nothing.
use Rattle.links.specs.promises.Links.{Along}
use Rattle.curves.proofs.PlacingLaws.{at}
use Rattle.curves.proofs.placing.row_along.Given as goal

abbrev pub invariant-loop-left : goal.invariant-loop-left
invariant-loop-left l = Along (at l.points l.i l.n l.cells) l.n l.links l.left

abbrev pub decreases-loop-left : goal.decreases-loop-left
decreases-loop-left l = l.left
