-- The groups that parents make, with the suppliers of the supply file put back. Assumes nothing.
use native.Mathlib.Omega.{arith}
use Rattle.engine.proofs.GroupLaws.{supplier-cells, listed-few, units-grouped, market-grouped, groups-decided}
use borrow.Author.Rules.{rules}
use Rattle.engine.proofs.day.Day.decide_groups.Goals as goal

pub list_shown-count-requires : goal.list_shown-count-requires
list_shown-count-requires c =
    let pre = c.requires in
    record { market_cells = pre.market_cells; units_of = pre.units_of; most_units_in_bounds = omega arith }

pub check_parents-reading-requires : goal.check_parents-reading-requires
check_parents-reading-requires c = supplier-cells _ _ _ c.requires.market_cells

pub decide_market-deciding-requires : goal.decide_market-deciding-requires
decide_market-deciding-requires c =
    let pre = c.requires in let checked = c.check_parents-reading.ensures in
    record { units_value = pre.units_value; market_cells = market-grouped _ _ _ _ checked _ (search rules) pre.market_cells; units_of = units-grouped _ _ _ _ checked _ _ pre.units_of; answer_width_in_bounds = pre.answer_width_in_bounds }

pub name_suppliers-requires : goal.name_suppliers-requires
name_suppliers-requires c =
    let pre = c.requires in let few = listed-few _ _ _ _ _ c.list_shown-count.ensures in
    record { k_in_bounds = omega (arith, pre.units_of.few, few); answer_width_in_bounds = omega (arith, pre.units_of.few, pre.answer_width_in_bounds, few) }

pub returns : goal.returns
returns c = groups-decided _ _ _ _ c.check_parents-reading.ensures _ _ _ _ _ _ c.decide_market-deciding.ensures _ _ c.requires.units_of _ _ (search rules) _ c.list_shown-count.ensures c.name_suppliers.ensures
