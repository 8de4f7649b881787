-- A row, one field a turn. Assumes nothing.
use Rattle.tables.proofs.RowLaws.{Laying}
use Rattle.tables.proofs.rows.lay_row.Given as goal

abbrev pub invariant-loop-c : goal.invariant-loop-c
invariant-loop-c l = Laying l.s l.initial.out l.first l.columns l.out l.rest l.good l.c
