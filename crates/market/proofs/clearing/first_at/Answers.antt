-- The search for the first row of a cost. Assumes nothing.
use Rattle.std.proofs.Common.{refl, sym, ◌∙◌, arith, rules, tests}
use Rattle.std.proofs.lemmas.Iterator.{YieldsList-from_range, serves_from_Range}
use Rattle.std.proofs.lemmas.Iterator.Adapters.{option_map_id}
use Rattle.std.proofs.lemmas.Iterator.Search.{find_from_yields_List}
use Rattle.cells.specs.promises.Views.{supply_at}
use Rattle.offers.specs.promises.Ranges.{SupplyRowAt}
use Rattle.offers.proofs.CellLaws.{row-cells}
use Rattle.market.specs.promises.Narrowing.{eligible_at, first_at}
use Rattle.market.proofs.TryLaws.{first-tried}
use Rattle.market.proofs.clearing.first_at.Goals as goal

pub find-requires-clause-callable : goal.find-requires-clause-callable
find-requires-clause-callable c =
    let a = c.args in
    let limit : SupplyRowAt a.cells.now a.limit = row-cells _ _ _ c.requires.supply_cells c.requires.limit_lt_n in
    serves_from_Range (λ x q h. search rules) (λ x l h. let row : SupplyRowAt a.cells.now x = row-cells _ _ x c.requires.supply_cells h in search rules)

pub returns : goal.returns
unfolding first_at
returns c =
    let a = c.args in
    let q = supply_at a.cells.now a.limit in
    c.unwrap_or.ensures
    ∙ first-tried a.n a.cells.now (eligible_at a.cutoff q) c.find.result
    (sym (option_map_id c.find.result)
    ∙ find_from_yields_List (λ j. eligible_at a.cutoff q (supply_at a.cells.now j)) _ _ c.find.result c.find.ensures.ran
    (YieldsList-from_range 0 a.n a.n refl (omega arith))
    (λ x b q k. search (rules, tests)))
