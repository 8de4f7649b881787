-- The search for a wanted row of the unit. Assumes nothing.
use native.Mathlib.Omega.{arith}
use Rattle.offers.proofs.CellLaws.{row-cells}
use Rattle.decision.proofs.UnitLaws.{wanting-found, wanting-other, wanting-later, wanting-over}
use Rattle.decision.proofs.units.has_wanted.Goals as goal
use Rattle.decision.proofs.units.has_wanted.Goals.{else-is_of-via-then-is_of+else-is_wanted, else-is_of-via-else-is_of}

pub is_of-requires : goal.is_of-requires
is_of-requires g c = row-cells c.args.n _ _ c.requires.supply_cells (omega arith)

pub returns-then-is_wanted : goal.returns-then-is_wanted
returns-then-is_wanted g c = let loop = c.loop-row in
    wanting-found _ _ _ _ loop.row loop.invariant (omega arith) (rw c.is_of.ensures at c.if-is_of.true) (rw c.if-is_wanted.true at c.is_wanted.ensures)

pub loop-row-preserved : goal.loop-row-preserved
loop-row-preserved g c = let loop = c.loop-row in
    elim c.else-is_of.branch [
      | else-is_of-via-then-is_of+else-is_wanted w ↦ wanting-later _ _ _ _ loop.row loop.invariant (omega arith) (rw w.if-is_wanted.false at w.is_wanted.ensures)
      | else-is_of-via-else-is_of w ↦ wanting-other _ _ _ _ loop.row loop.invariant (omega arith) (rw c.is_of.ensures at w.if-is_of.false)
    ]

pub returns : goal.returns
returns g c = wanting-over _ _ _ _ c.loop-row.row c.loop-row.invariant (omega arith)
