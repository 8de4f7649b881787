-- Rows linked one a turn. Assumes nothing.
use Rattle.links.proofs.LinkLaws.{RowsLinking}
use Rattle.schedules.proofs.linking.link_rows.Given as goal

abbrev pub invariant-loop-k : goal.invariant-loop-k
invariant-loop-k l = RowsLinking l.cells l.n l.initial.links l.links l.k
