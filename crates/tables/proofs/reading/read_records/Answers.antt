-- The header, then the field counts. Assumes nothing.
use mathlib.Core.List.{[]}
use native.Mathlib.Omega.{arith}
use borrow.Author.Tests.{not-true, not-false}
use Rattle.tables.proofs.ReadLaws.{shaped-some, read-none-fits, read-other-header, read-other-count, shaped-counted}
use Rattle.tables.proofs.reading.read_records.Goals as goal

pub returns-then-fitting-eq0 : goal.returns-then-fitting-eq0
returns-then-fitting-eq0 c = rw c.refused.ensures (read-none-fits _ _ _ _ c.requires.shaped _ c.if-fitting-eq0.true)

pub returns-then-not-header : goal.returns-then-not-header
returns-then-not-header c =
    rw c.refused-then-not-header.ensures
    (read-other-header _ _ _ _ c.requires.shaped _ c.if-fitting-eq0.false _ c.read_header-header.ensures (not-true _ c.if-not-header.true))

pub returns-then-fitting-records : goal.returns-then-fitting-records
returns-then-fitting-records c =
    rw c.refused-then-fitting-records.ensures
    (read-other-count _ _ _ _ c.requires.shaped _ c.if-fitting-eq0.false _ c.read_header-header.ensures (not-false _ c.if-not-header.false) (omega arith))

pub overflow_sub-records : goal.overflow_sub-records
overflow_sub-records c = shaped-some _ _ c.requires.shaped

pub read_rows-requires : goal.read_rows-requires
read_rows-requires c = record { rows_counted = shaped-counted _ _ _ _ c.requires.shaped [] c.if-fitting-eq0.false _ c.read_header-header.ensures (not-false _ c.if-not-header.false) (omega arith); file_in_bounds = c.requires.file_in_bounds }
