-- The place of a number in a list. Assumes nothing.
use Rattle.std.proofs.Common.{eqb, rules, tests}
use Rattle.std.proofs.lemmas.Iterator.{YieldsList-from_slice}
use Rattle.std.proofs.lemmas.Iterator.Search.{position_from_yields_List}
use Rattle.numbers.proofs.SearchLaws.{found_place}
use Rattle.numbers.proofs.searching.place_of.Goals as goal

pub returns : goal.returns
returns c =
    let x = c.args.x in
    let xs = c.args.xs.now in
    found_place (λ y. eqb y x) xs
    (position_from_yields_List (λ y. eqb y x) _ _ c.position.result c.position.ensures.ran (YieldsList-from_slice xs cc) (λ y b q k. search (rules, tests)))
