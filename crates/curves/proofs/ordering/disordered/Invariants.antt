-- The first point out of the order of its curve. Assumes nothing.
use Rattle.curves.proofs.OrderLaws.{Ordering}
use Rattle.curves.proofs.ordering.disordered.Given as goal

abbrev pub invariant-loop-i : goal.invariant-loop-i
invariant-loop-i l = Ordering l.m l.points l.places l.lasts l.counts l.i
