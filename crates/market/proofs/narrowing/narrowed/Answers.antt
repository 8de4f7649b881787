-- The bounds, narrowed by one row. Assumes nothing.
use Rattle.std.proofs.Common.{sym, ◌∙◌, arith, rules, tests}
use Rattle.offers.specs.promises.Ranges.{SupplyRowAt}
use Rattle.offers.proofs.CellLaws.{row-cells}
use Rattle.market.proofs.NarrowingLaws.{narrows-not, narrows-low, narrows-high}
use Rattle.market.proofs.narrowing.narrowed.Goals as goal

pub returns-then-n-row : goal.returns-then-n-row
returns-then-n-row c = narrows-not _ _ _ _ _ c.requires.bounding _ (λ h. absurd (omega arith))

pub returns-then-not-is_between : goal.returns-then-not-is_between
returns-then-not-is_between c = narrows-not _ _ _ _ _ c.requires.bounding _ (λ h. sym c.is_between.ensures ∙ c.if-not-is_between.true)

pub supply_of-requires-clause-callable : goal.supply_of-requires-clause-callable
supply_of-requires-clause-callable c =
    let limit : SupplyRowAt c.args.cells.now c.args.row = row-cells _ _ _ c.requires.supply_cells (omega arith) in
    λ k h. let row : SupplyRowAt c.args.cells.now k = row-cells _ _ k c.requires.supply_cells h in search rules

pub returns-then-supply_of-need : goal.returns-then-supply_of-need
returns-then-supply_of-need c =
    narrows-low _ _ _ _ _ c.requires.bounding _
    (sym c.is_between.ensures ∙ c.if-not-is_between.false)
    _ (c.supply_of.ensures _ (λ k b h e. search (rules, tests))) (omega arith) (omega arith)

pub returns : goal.returns
returns c =
    narrows-high _ _ _ _ _ c.requires.bounding _
    (sym c.is_between.ensures ∙ c.if-not-is_between.false)
    _ (c.supply_of.ensures _ (λ k b h e. search (rules, tests))) (omega arith) (omega arith)
