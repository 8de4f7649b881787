-- A numeral with its sign. Assumes nothing.
use Rattle.std.proofs.Common.{arith}
use Rattle.onepass.proofs.FieldLaws.{is_below, is-above}
use Rattle.onepass.proofs.fields.signed.Goals as goal

pub returns-then-s-at-eq-MINUS : goal.returns-then-s-at-eq-MINUS
returns-then-s-at-eq-MINUS c = is_below _ _ _ _ _ _ (omega arith) (omega arith) c.in_ok-below.ensures.text_found (omega arith)

pub returns : goal.returns
returns c = is-above _ _ _ _ _ _ (λ e. omega arith) c.in_ok-above.ensures.text_found (omega arith)
