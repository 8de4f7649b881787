-- A numeral within its bounds. Assumes nothing.
use Rattle.std.proofs.Common.{arith}
use Rattle.onepass.proofs.FieldLaws.{is_zero, is-numeral}
use Rattle.onepass.proofs.fields.numeral.Goals as goal

pub returns-then-above_one-ge-LARGEST_DIGIT-clause-text_found : goal.returns-then-above_one-ge-LARGEST_DIGIT-clause-text_found
returns-then-above_one-ge-LARGEST_DIGIT-clause-text_found c = is_zero _ _ _ _ c.zero.result (omega arith) c.zero.ensures

pub returns-clause-text_found : goal.returns-clause-text_found
returns-clause-text_found c = is-numeral _ _ _ _ _ c.digits-run.ensures.run (omega arith) (λ e. omega arith) (omega arith) (omega arith)
