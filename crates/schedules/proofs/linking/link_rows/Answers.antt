-- Rows linked one a turn. Assumes nothing.
use native.Mathlib.Omega.{arith}
use Rattle.links.proofs.LinkLaws.{rows-linking-none, rows-linking-next, rows-linking-over}
use Rattle.schedules.proofs.linking.link_rows.Goals as goal

pub loop-k-init : goal.loop-k-init
loop-k-init c = rows-linking-none _ _ _ (omega arith) (omega arith) c.requires.unlinked

pub loop-k-preserved : goal.loop-k-preserved
loop-k-preserved c = rows-linking-next _ _ _ _ _ _ _ c.loop-k.invariant c.loop-k-test.true _ c.cell.ensures c.cell-in-loop-k.ensures c.link_row.ensures

pub returns : goal.returns
returns c = rows-linking-over _ _ _ _ _ c.loop-k.invariant c.loop-k-test.false
