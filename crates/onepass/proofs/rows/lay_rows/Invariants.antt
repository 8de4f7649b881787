-- Rows, one a turn, as far as the file goes. Assumes nothing.
use Rattle.std.proofs.Common.{◌≡◌, ◌-◌}
use Rattle.tables.specs.Table.{table, width}
use Rattle.onepass.proofs.RowLaws.{Walked}
use Rattle.onepass.proofs.rows.lay_rows.Given as goal

abbrev pub invariant-loop-rest : goal.invariant-loop-rest
invariant-loop-rest l =
    (l.columns ≡ width l.file) × (l.most ≡ (table l.file).most_rows) × Walked l.file l.s l.initial.cells l.cells l.rest l.at l.k

abbrev pub decreases-loop-rest : goal.decreases-loop-rest
decreases-loop-rest l = l.most - l.k
