-- The search for a wanted row of the unit. Assumes nothing.
use Rattle.decision.proofs.UnitLaws.{Wanting}
use Rattle.decision.proofs.units.has_wanted.Given as goal

abbrev pub invariant-loop-row : goal.invariant-loop-row
invariant-loop-row g l = Wanting (goal.F-post g l.is_wanted) l.unit l.n l.cells l.row
