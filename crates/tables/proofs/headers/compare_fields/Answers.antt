-- Fields beside fields, one a turn. Assumes nothing.
use native.Mathlib.Omega.{arith}
use Rattle.tables.proofs.HeaderLaws.{comparing-none, comparing-next, comparing-over}
use Rattle.tables.proofs.headers.compare_fields.Goals as goal

pub loop-init : goal.loop-init
loop-init c = comparing-none _ _ _

pub loop-preserved : goal.loop-preserved
loop-preserved c =
    let loop = c.loop in
    rw c.same_field-same.ensures
    (comparing-next _ _ _ loop.rest.now loop.left.now _ _ _ _ loop.invariant (omega arith) c.next_field-next.ensures.s_value c.next_field-further.ensures.s_value)

pub returns : goal.returns
returns c = comparing-over _ _ _ _ _ _ _ c.loop.invariant (omega arith)
