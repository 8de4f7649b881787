-- The units that would run, one more a turn. Assumes nothing.
use Rattle.running.specs.View.{units_of}
use Rattle.running.proofs.AskingLaws.{Counting}
use Rattle.running.proofs.units.Units.would_run.Given as goal

abbrev pub invariant-loop-unit : goal.invariant-loop-unit
invariant-loop-unit l = Counting (units_of l.self) l.units l.unit-index l.total
