-- The first of the unit's rows. Assumes nothing.
use Prim.Native.Nat.{◌-◌}
use mathlib.Core.Path.{◌≡◌, sym, ◌∙◌}
use native.Mathlib.Omega.{arith}
use Rattle.offers.proofs.CellLaws.{row-cells}
use Rattle.decision.proofs.UnitLaws.{seeking-none, seeking-within, seeking-found, seeking-later, seeking-last}
use Rattle.decision.proofs.units.row_of.Goals as goal

pub overflow_sub-last : goal.overflow_sub-last
overflow_sub-last c = omega (arith, seeking-within _ _ _ _ (seeking-none _ c.args.n c.args.cells.now c.requires.cells_value))

pub is_of-requires : goal.is_of-requires
is_of-requires c = row-cells _ _ _ c.requires.supply_cells (omega arith)

pub returns-then-is_of : goal.returns-then-is_of
returns-then-is_of c = seeking-found _ _ _ _ c.loop-row.invariant (sym c.is_of.ensures ∙ c.if-is_of.true)

pub loop-row-preserved : goal.loop-row-preserved
loop-row-preserved c = seeking-later _ _ _ _ c.loop-row.invariant (sym c.is_of.ensures ∙ c.if-is_of.false)

pub returns : goal.returns
returns c =
    let loop = c.loop-row in
    let last : loop.row ≡ c.args.n - 1 = omega arith in
    rw last at (seeking-last _ _ _ loop.row loop.invariant (omega arith))
