-- The suppliers, one unit a turn. Assumes nothing.
use mathlib.Core.Path.{◌∙◌, ap}
use native.Mathlib.Omega.{arith}
use Rattle.tables.specs.Rows.{SupplyRow}
use Rattle.offers.proofs.CellLaws.{row-cells}
use Rattle.market.proofs.ListingLaws.{filling-next}
use Rattle.decision.proofs.UnitLaws.{unit-there}
use Rattle.decision.proofs.naming.list_suppliers.Goals as goal

pub row_of-row-requires : goal.row_of-row-requires
row_of-row-requires c =
    record { supply_cells = c.requires.supply_cells; cells_value = unit-there _ _ _ _ c.requires.units_of (omega arith) }

pub supplier-requires : goal.supplier-requires
supplier-requires c = row-cells c.args.n _ _ c.requires.supply_cells c.row_of-row.ensures.within

pub loop-i-preserved : goal.loop-i-preserved
loop-i-preserved c = let loop = c.loop-i in filling-next _ _ _ _ loop.i _ (omega (arith, c.requires.units_of.there)) (omega (arith, c.requires.k_in_bounds)) (c.supplier.ensures ∙ ap (λ (r : SupplyRow). r.supplier) c.row_of-row.ensures.found) loop.invariant
