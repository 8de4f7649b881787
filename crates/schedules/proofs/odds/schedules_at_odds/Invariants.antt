-- The first row at odds with an earlier one. Assumes nothing.
use Rattle.schedules.proofs.OddsLaws.{Agreeing}
use Rattle.schedules.proofs.odds.schedules_at_odds.Given as goal

abbrev pub invariant-loop-k : goal.invariant-loop-k
invariant-loop-k l = Agreeing l.n l.cells l.k
