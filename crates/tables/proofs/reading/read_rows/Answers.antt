-- The number of rows, then the rows. Assumes nothing.
use native.Mathlib.Omega.{arith}
use Rattle.tables.proofs.ReadLaws.{read-few, read-many, room-enough, read-malformed, read_all}
use Rattle.tables.proofs.reading.read_rows.Goals as goal

pub returns-then-count-fewest_rows : goal.returns-then-count-fewest_rows
returns-then-count-fewest_rows c = rw c.refused.ensures (read-few _ _ _ _ c.requires.rows_counted _ (omega arith))

pub returns-then-most_rows-count : goal.returns-then-most_rows-count
returns-then-most_rows-count c = rw c.refused-then-most_rows-count.ensures (read-many _ _ _ _ c.requires.rows_counted _ (omega arith) (omega arith))

pub lay_rows-run-requires : goal.lay_rows-run-requires
lay_rows-run-requires c = room-enough _ _ _ _ c.requires.rows_counted (omega arith) (omega arith) _ c.requires.file_in_bounds

pub returns-then-run-count : goal.returns-then-run-count
returns-then-run-count c =
    rw c.refused-then-run-count.ensures
    (read-malformed _ _ _ _ c.requires.rows_counted (omega arith) (omega arith) _ _ _ c.lay_rows-run.ensures (omega arith))

pub returns : goal.returns
returns c = read_all _ _ _ _ c.requires.rows_counted (omega arith) (omega arith) _ _ _ c.lay_rows-run.ensures (omega arith)
