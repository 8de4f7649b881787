-- The digits, one a turn. Assumes nothing.
use Rattle.std.proofs.Common.{arith}
use Rattle.onepass.proofs.FieldLaws.{running-first, running-next}
use Rattle.onepass.proofs.fields.digits.Goals as goal

pub loop-i-init : goal.loop-i-init
loop-i-init c = running-first _ _ _ (omega arith) (omega arith) (omega arith)

pub loop-i-preserved : goal.loop-i-preserved
loop-i-preserved c = running-next _ _ _ _ _ c.loop-i.invariant (omega arith) c.wrapping_sub_u8-digit.ensures.value (omega arith)
