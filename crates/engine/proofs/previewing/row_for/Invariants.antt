-- The search for a unit's row. Assumes nothing.
use Rattle.engine.proofs.PreviewLaws.{Seeking}
use Rattle.engine.proofs.previewing.row_for.Given as goal

abbrev pub invariant-loop-i : goal.invariant-loop-i
invariant-loop-i l = Seeking l.unit l.count l.rows l.i
