-- The first of the unit's rows. Assumes nothing.
use Rattle.decision.proofs.UnitLaws.{Seeking}
use Rattle.decision.proofs.units.row_of.Given as goal

abbrev pub invariant-loop-row : goal.invariant-loop-row
invariant-loop-row l = Seeking l.unit l.n l.cells l.row
