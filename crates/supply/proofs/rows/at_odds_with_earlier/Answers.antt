-- One row against each of those before it. Assumes nothing.
use Rattle.std.proofs.Common.{refl, ◌∙◌, arith, rules, tests}
use Rattle.std.proofs.lemmas.Iterator.{YieldsList-from_range}
use Rattle.std.proofs.lemmas.Iterator.Search.{any_from_yields_List}
use Rattle.cells.specs.promises.Views.{supply_at}
use Rattle.supply.specs.Supply.{supply_odds}
use Rattle.supply.proofs.SupplyLaws.{earlier-range}
use Rattle.supply.proofs.rows.at_odds_with_earlier.Goals as goal

pub returns : goal.returns
returns c =
    let a = c.args in
    any_from_yields_List (λ j. supply_odds (supply_at a.cells.now a.k) (supply_at a.cells.now j)) _ _ c.any.result c.any.ensures.ran
    (YieldsList-from_range 0 a.k a.k refl (omega arith))
    (λ x b q k. search (rules, tests))
    ∙ earlier-range a.cells.now (supply_at a.cells.now a.k) a.k
