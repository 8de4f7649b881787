-- A row, one field a turn. Assumes nothing.
use Rattle.onepass.proofs.RowLaws.{LayingTo}
use Rattle.onepass.proofs.rows.lay_row.Given as goal

abbrev pub invariant-loop-c : goal.invariant-loop-c
invariant-loop-c l = LayingTo l.s l.first l.columns l.initial.out l.out l.rest l.c
