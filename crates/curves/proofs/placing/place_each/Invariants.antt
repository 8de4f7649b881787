-- The row of each point, one point a turn. Assumes nothing.
use Rattle.curves.proofs.PlacingLaws.{Placing}
use Rattle.curves.proofs.placing.place_each.Given as goal

abbrev pub invariant-loop-i : goal.invariant-loop-i
invariant-loop-i l = Placing l.m l.points l.n l.cells l.places l.tried l.i
