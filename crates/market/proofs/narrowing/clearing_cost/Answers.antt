-- The search for the clearing cost, one row a turn. Assumes nothing.
use native.Mathlib.Omega.{arith}
use Rattle.market.proofs.NarrowingLaws.{searching-none, searching-next, searching-over}
use Rattle.market.proofs.narrowing.clearing_cost.Goals as goal

pub loop-turn-init : goal.loop-turn-init
loop-turn-init c = searching-none _ _ _ _

pub loop-turn-preserved : goal.loop-turn-preserved
loop-turn-preserved c = let loop = c.loop-turn in
    searching-next _ _ _ _ loop.turn _ loop.bounds _ (omega arith) loop.invariant c.narrowed-bounds.ensures

pub returns : goal.returns
returns c = searching-over _ _ _ _ c.requires.supply_cells c.requires.need_nonzero c.loop-turn.turn c.loop-turn.bounds (omega arith) c.loop-turn.invariant
