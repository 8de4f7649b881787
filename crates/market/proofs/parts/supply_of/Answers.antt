-- The supply, added up, one row a turn. Assumes nothing.
use native.Mathlib.Omega.{arith}
use Rattle.offers.proofs.CellLaws.{row-cells}
use Rattle.market.proofs.PartLaws.{adding-fits, adding-in, adding-out, adding-over}
use Rattle.market.proofs.parts.supply_of.Goals as goal
use Rattle.market.proofs.parts.supply_of.Goals.{then-is_in, else-is_in}

pub effective_supply-sum-requires : goal.effective_supply-sum-requires
effective_supply-sum-requires g c = row-cells c.args.n _ _ c.requires.supply_cells (omega arith)

pub overflow_add-sum : goal.overflow_add-sum
overflow_add-sum g c = let loop = c.loop-row in
    omega (arith, adding-fits _ _ _ loop.row _ loop.invariant c.requires.supply_cells (omega arith) _ c.effective_supply-sum.ensures)

pub loop-row-preserved : goal.loop-row-preserved
loop-row-preserved g c = let loop = c.loop-row in
    elim c.if-is_in.branch [
      | then-is_in w ↦ rw w.sum-is (adding-in _ _ _ loop.row _ loop.invariant c.requires.supply_cells (omega arith) (rw w.if-is_in.true at c.is_in.ensures) _ w.effective_supply-sum.ensures)
      | else-is_in w ↦ rw w.sum-is (adding-out _ _ _ loop.row _ loop.invariant (omega arith) (rw w.if-is_in.false at c.is_in.ensures))
    ]

pub returns : goal.returns
returns g c = adding-over _ _ _ c.loop-row.row _ c.loop-row.invariant (omega arith)
