-- Heads for suppliers, one row a turn. Assumes nothing.
use native.Mathlib.Omega.{arith}
use Rattle.affiliates.proofs.GroupingLaws.{grouping-none, grouping-ranged, grouping-next, grouping-over}
use Rattle.affiliates.proofs.grouping.group_rows.Goals as goal

pub loop-i-init : goal.loop-i-init
loop-i-init c =
    let pre = c.requires in
    grouping-none _ _ _ _ _ pre.parent_run pre.heads_in pre.supplier_cells

pub head_once-found-requires : goal.head_once-found-requires
head_once-found-requires c =
    let g = c.loop-i.invariant in
    record { parent_run = g.a-run; heads_in = g.heads-in; supplier_le_highest_supplier = grouping-ranged _ _ _ _ _ _ _ _ g c.loop-i-test.true }

pub loop-i-preserved : goal.loop-i-preserved
loop-i-preserved c =
    let call = c.head_once-found in
    grouping-next _ _ _ _ _ _ _ _ c.loop-i.invariant (omega arith) _ _ _
    call.ensures.heads_in_2
    call.auto.heads
    (omega arith)
    call.ensures.value

pub returns : goal.returns
returns c = grouping-over _ _ _ _ _ _ _ _ c.loop-i.invariant (omega arith)
