-- The cost of a run, along the rows of its schedule's key. Assumes nothing.
use Rattle.links.proofs.LinkLaws.{Walk}
use Rattle.choice.proofs.CostLaws.{share_added}
use Rattle.choice.proofs.costs.run_cost.Given as goal

abbrev pub invariant-loop-left : goal.invariant-loop-left
invariant-loop-left l = Walk (share_added l.n l.cells l.hour l.s) 0 l.n l.by_schedule l.sum l.left

abbrev pub decreases-loop-left : goal.decreases-loop-left
decreases-loop-left l = l.left
