-- A search of the numbers. Assumes nothing.
use Rattle.std.proofs.Common.{eqb, rules, tests}
use Rattle.std.proofs.lemmas.Iterator.{YieldsList-from_slice}
use Rattle.std.proofs.lemmas.Iterator.Search.{any_from_yields_List}
use Rattle.numbers.proofs.SearchLaws.{any_among}
use Rattle.numbers.proofs.searching.contains.Goals as goal

pub returns : goal.returns
returns c =
    let x = c.args.x in
    let xs = c.args.xs.now in
    any_among x xs
    (any_from_yields_List (λ y. eqb y x) _ _ c.any.result c.any.ensures.ran (YieldsList-from_slice xs cc) (λ y b q k. search (rules, tests)))
