-- The parents laid down, one row a turn. Assumes nothing.
use Rattle.affiliates.proofs.LayingLaws.{Laying}
use Rattle.affiliates.proofs.parents.lay_parents.Given as goal

abbrev pub invariant-loop-i : goal.invariant-loop-i
invariant-loop-i l = Laying l.cells l.n l.initial.parents l.parents l.i
