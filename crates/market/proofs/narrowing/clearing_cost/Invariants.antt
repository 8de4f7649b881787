-- The search for the clearing cost, one row a turn. Assumes nothing.
use Rattle.market.proofs.NarrowingLaws.{Searching}
use Rattle.market.proofs.narrowing.clearing_cost.Given as goal

abbrev pub invariant-loop-turn : goal.invariant-loop-turn
invariant-loop-turn l = Searching l.n l.cells l.cutoff l.need l.turn l.bounds
