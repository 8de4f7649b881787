-- Heads for suppliers, one row a turn. Assumes nothing.
use Rattle.affiliates.proofs.GroupingLaws.{Grouping}
use Rattle.affiliates.proofs.grouping.group_rows.Given as goal

abbrev pub invariant-loop-i : goal.invariant-loop-i
invariant-loop-i l = Grouping l.parents l.rows l.initial.heads l.heads l.n l.initial.supply l.supply l.i
