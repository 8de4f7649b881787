-- Rows at the prices of their curves, one point a turn. Assumes nothing.
use Rattle.curves.proofs.PricingLaws.{Pricing}
use Rattle.curves.proofs.pricing.price_rows.Given as goal

abbrev pub invariant-loop-i : goal.invariant-loop-i
invariant-loop-i l = Pricing l.m l.points l.places l.n l.initial.cells l.cells l.i
