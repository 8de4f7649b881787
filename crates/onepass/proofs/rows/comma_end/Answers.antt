-- Behind a COMMA. Assumes nothing.
use Rattle.std.proofs.Common.{arith}
use Rattle.onepass.proofs.RowLaws.{is-comma}
use Rattle.onepass.proofs.rows.comma_end.Goals as goal

pub returns : goal.returns
returns c = is-comma _ _ (omega arith) (omega arith)
