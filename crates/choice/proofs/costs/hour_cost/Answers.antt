-- The cost of an hour. Assumes nothing.
use native.Mathlib.Omega.{arith}
use Rattle.choice.specs.Cost.{hour_cost}
use Rattle.choice.proofs.CostLaws.{output-small}
use Rattle.choice.proofs.costs.hour_cost.Goals as goal

pub overflow_mul-result : goal.overflow_mul-result
overflow_mul-result c = rw (c.cell.ensures, c.price.ensures) (omega (arith, output-small _ c.requires.ranged))

pub overflow_add-result : goal.overflow_add-result
overflow_add-result c =
    rw (c.cell.ensures, c.price.ensures)
    (omega (arith, output-small _ c.requires.ranged, c.requires.ranged.noload, c.cell-2.ensures))

pub returns : goal.returns
unfolding hour_cost
returns c = simp (c.cell.ensures, c.price.ensures, c.cell-2.ensures)
