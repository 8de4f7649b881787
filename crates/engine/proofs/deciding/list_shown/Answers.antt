-- None where there are no parents, else all. Assumes nothing.
use native.Mathlib.Omega.{arith}
use Rattle.engine.proofs.GroupLaws.{none-listed, all_listed}
use Rattle.engine.proofs.deciding.list_shown.Goals as goal

pub returns-then-parents-eq0 : goal.returns-then-parents-eq0
returns-then-parents-eq0 c = none-listed _ _ _ _ (omega arith)

pub list_suppliers-requires : goal.list_suppliers-requires
list_suppliers-requires c =
    let pre = c.requires in
    record { supply_cells = pre.market_cells.rows; units_of = pre.units_of; k_in_bounds = omega (arith, pre.units_of.few, pre.most_units_in_bounds) }

pub returns : goal.returns
returns c = all_listed _ _ _ _ (omega arith) c.list_suppliers.ensures
