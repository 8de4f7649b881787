-- The place of a number: the first number that is not below it. Assumes nothing.
use Rattle.std.proofs.Common.{leb, rules, tests}
use Rattle.std.proofs.lemmas.Iterator.{YieldsList-from_slice}
use Rattle.std.proofs.lemmas.Iterator.Search.{position_from_yields_List}
use Rattle.numbers.proofs.InsertLaws.{placed_found}
use Rattle.numbers.proofs.inserting.place.Goals as goal

pub returns : goal.returns
returns c =
    let x = c.args.x in
    let xs = c.args.xs.now in
    placed_found x xs
    (position_from_yields_List (λ y. leb x y) _ _ c.position.result c.position.ensures.ran (YieldsList-from_slice xs cc) (λ y b q k. search (rules, tests)))
    c.unwrap_or.ensures
