-- No head is found yet. Assumes nothing.
use native.Mathlib.Omega.{arith}
use Rattle.affiliates.proofs.GroupingLaws.{no-heads}
use Rattle.affiliates.proofs.grouping.group.Goals as goal

pub group_rows-requires : goal.group_rows-requires
group_rows-requires c =
    let pre = c.requires in
    record { parent_run = pre.parent_run; heads_in = no-heads _ _ 1000 (omega arith); supplier_cells = pre.supplier_cells }
