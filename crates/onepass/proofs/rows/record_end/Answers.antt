-- The end of a record. Assumes nothing.
use Rattle.std.proofs.Common.{arith}
use Rattle.onepass.proofs.RowLaws.{is-end, is-crlf}
use Rattle.onepass.proofs.rows.record_end.Goals as goal

pub returns-then-end-at : goal.returns-then-end-at
returns-then-end-at c = is-end _ _ (omega arith)

pub returns : goal.returns
returns c = is-crlf _ _ (omega arith) (omega arith) (omega arith)
