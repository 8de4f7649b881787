-- A letter. Assumes nothing.
use Rattle.std.proofs.Common.{refl, arith}
use Rattle.onepass.proofs.FieldLaws.{is-letter, first-letter, second-letter}
use Rattle.onepass.proofs.fields.letter.Goals as goal

pub returns-then-cell-a : goal.returns-then-cell-a
returns-then-cell-a c = is-letter _ _ _ _ _ (omega arith) refl (omega arith) (omega arith) (first-letter _ _ _ (omega arith))

pub returns-then-cell-b : goal.returns-then-cell-b
returns-then-cell-b c = is-letter _ _ _ _ _ (omega arith) refl (omega arith) (omega arith) (second-letter _ _ _ (λ e. omega arith) (omega arith))
