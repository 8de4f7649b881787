-- Rows against the last of their key, one row a turn. Assumes nothing.
use Rattle.supply.proofs.SupplyLaws.{Agreeing}
use Rattle.supply.proofs.rows.first_at_odds.Given as goal

abbrev pub invariant-loop-k : goal.invariant-loop-k
invariant-loop-k l = Agreeing l.cells l.n l.initial.last l.last l.k
