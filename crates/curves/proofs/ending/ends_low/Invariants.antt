-- The first record that ends its curve below ecomin. Assumes nothing.
use Rattle.curves.proofs.EndLaws.{Ending}
use Rattle.curves.proofs.ending.ends_low.Given as goal

abbrev pub invariant-loop-i : goal.invariant-loop-i
invariant-loop-i l = Ending l.m l.points l.places l.lasts l.n l.cells l.i
