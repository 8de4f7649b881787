-- The supply, added up, one row a turn. Assumes nothing.
use Rattle.market.proofs.PartLaws.{Adding}
use Rattle.market.proofs.parts.supply_of.Given as goal

abbrev pub invariant-loop-row : goal.invariant-loop-row
invariant-loop-row g l = Adding (goal.F-post g l.is_in) l.n l.cells l.row l.sum
