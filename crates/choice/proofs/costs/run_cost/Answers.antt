-- The cost of a run, along the rows of its schedule's key. Assumes nothing.
use mathlib.Core.Path.{◌∙◌}
use native.Mathlib.Omega.{arith}
use Rattle.links.proofs.LinkLaws.{walk-less, walk-next, walk-over}
use Rattle.choice.proofs.UnitLaws.{row_here}
use Rattle.choice.proofs.CostLaws.{run-walk, run_fits, run-over}
use Rattle.choice.proofs.costs.run_cost.Goals as goal

pub loop-left-init : goal.loop-left-init
loop-left-init c = rw c.link_at-left.ensures (let key = c.schedule_key-key.ensures in let a = c.args in run-walk a.n a.cells.now a.hour a.s _ _ c.requires.linked (key.0 ∙ rw (c.cell-2.ensures, c.cell.ensures)) key.1)

pub share-sum-requires : goal.share-sum-requires
share-sum-requires c =
    let here = row_here _ _ c.requires.schedule_cells in
    record { schedule_row_at = here _ c.requires.s_lt_n; schedule_row_at_2 = here _ (omega arith); hour_le_last_hour = c.requires.hour_le_last_hour }

pub overflow_add-sum : goal.overflow_add-sum
overflow_add-sum c = let a = c.args in omega (arith, c.share-sum.ensures, run_fits a.n a.cells.now a.hour a.s _ _ _ c.requires.schedule_cells c.loop-left.invariant c.loop-left-test.true)

pub loop-left-smaller : goal.loop-left-smaller
loop-left-smaller c = rw c.link_at-left-in-loop-left.ensures (walk-less _ _ _ _ _ _ c.loop-left.invariant c.loop-left-test.true)

pub loop-left-preserved : goal.loop-left-preserved
loop-left-preserved c = rw c.link_at-left-in-loop-left.ensures (walk-next _ _ _ _ _ _ c.loop-left.invariant c.loop-left-test.true _ (rw c.share-sum.ensures))

pub returns : goal.returns
returns c = let a = c.args in run-over a.n a.cells.now a.hour a.s _ (walk-over _ _ _ _ _ _ c.loop-left.invariant c.loop-left-test.false)
