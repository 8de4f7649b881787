-- The rows, one unit a turn. Assumes nothing.
use Rattle.running.specs.View.{units_of}
use Rattle.decision.proofs.LayingLaws.{Laying}
use Rattle.decision.proofs.deciding.choose_rows.Given as goal

abbrev pub invariant-loop-i : goal.invariant-loop-i
invariant-loop-i l = Laying l.hour l.schedules (units_of l.running) l.k l.tests.tests l.initial.rows l.rows l.i
