-- One place after the other. Assumes nothing.
use Rattle.capping.proofs.DayInLaws.{Taking}
use Rattle.capping.proofs.days.units_in.Given as goal

abbrev pub invariant-loop-i : goal.invariant-loop-i
invariant-loop-i l = Taking l.cells l.running l.i
