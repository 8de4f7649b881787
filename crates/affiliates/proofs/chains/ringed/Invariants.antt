-- The first record whose chain comes back, one row a turn. Assumes nothing.
use Rattle.affiliates.proofs.WalkLaws.{Searching}
use Rattle.affiliates.proofs.chains.ringed.Given as goal

abbrev pub invariant-loop-i : goal.invariant-loop-i
invariant-loop-i l = Searching l.cells l.n l.parents l.i
