-- Whether a row counts and its cost is between the bounds. Assumes nothing.
use mathlib.Core.Bool.{and-false}
use native.Mathlib.Omega.{arith}
use Rattle.market.specs.promises.Narrowing.{between}
use Rattle.offers.proofs.CellLaws.{row-cells}
use Rattle.market.proofs.narrowing.is_between.Goals as goal

pub counts-requires : goal.counts-requires
counts-requires c = row-cells _ _ _ c.requires.supply_cells (omega arith)

pub returns-then-is_cheaper : goal.returns-then-is_cheaper
unfolding between
returns-then-is_cheaper c = simp (
  ← c.counts.ensures,
  c.if-counts.true,
  ← c.is_cheaper.ensures,
  c.if-is_cheaper.true,
  c.is_cheaper-then-is_cheaper.ensures,
)

pub returns-else-is_cheaper : goal.returns-else-is_cheaper
unfolding between
returns-else-is_cheaper c = simp (← c.is_cheaper.ensures, c.if-is_cheaper.false, and-false)

pub returns-else-counts : goal.returns-else-counts
unfolding between
returns-else-counts c = simp (← c.counts.ensures, c.if-counts.false)
