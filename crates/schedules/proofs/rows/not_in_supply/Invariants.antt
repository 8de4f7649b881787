-- The first row of a unit that is not in supply. Assumes nothing.
use Rattle.schedules.proofs.ScheduleLaws.{Known}
use Rattle.schedules.proofs.rows.not_in_supply.Given as goal

abbrev pub invariant-loop-k : goal.invariant-loop-k
invariant-loop-k l = Known l.n l.cells l.units l.k
