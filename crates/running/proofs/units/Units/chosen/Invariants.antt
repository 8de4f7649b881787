-- What the rows have running, one row a turn. Assumes nothing.
use Rattle.running.proofs.CommitLaws.{Choosing}
use Rattle.running.proofs.units.Units.chosen.Given as goal

abbrev pub invariant-loop-i : goal.invariant-loop-i
invariant-loop-i l = Choosing l.n l.rows l.running l.i
