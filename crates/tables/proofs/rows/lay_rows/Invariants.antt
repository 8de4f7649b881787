-- Rows, one a turn. Assumes nothing.
use mathlib.Core.Path.{◌≡◌}
use Rattle.tables.specs.Table.{width}
use Rattle.tables.proofs.RowLaws.{LayingRows}
use Rattle.tables.proofs.rows.lay_rows.Given as goal

abbrev pub invariant-loop-k : goal.invariant-loop-k
invariant-loop-k l =
    (l.columns ≡ width l.file) × LayingRows l.file l.s l.count l.initial.cells l.cells l.rest l.at l.run l.k
