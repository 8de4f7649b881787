-- Supply read, then held to rules 5 and 6. Assumes nothing.
use Rattle.std.proofs.lemmas.Result.{err_from_is_err_and}
use Rattle.checking.proofs.AloneLaws.{supply-unread, supply-fits, supply-over-limit, supply-odd, supply-passed}
use borrow.Author.Rules.{rules}
use Rattle.checking.proofs.supply_file.read_supply.Goals as goal

pub over_limit-counts-requires : goal.over_limit-counts-requires
over_limit-counts-requires c = (supply-fits _ _ _ _ c.read.ensures _ c.in_ok-n.was (search rules), search rules, search rules)

pub supply_at_odds-requires : goal.supply_at_odds-requires
supply_at_odds-requires c = supply-fits _ _ _ _ c.read.ensures _ c.in_ok-n.was (search rules)

pub returns-in-Some : goal.returns-in-Some
returns-in-Some c = supply-over-limit _ _ _ _ c.read.ensures _ c.in_ok-n.was _ _ _ c.over_limit-counts.ensures c.in-Some.is c.refused.ensures

pub returns-in-Some-supply_at_odds : goal.returns-in-Some-supply_at_odds
returns-in-Some-supply_at_odds c =
    supply-odd _ _ _ _ c.read.ensures _ c.in_ok-n.was _ _ _ c.over_limit-counts.ensures c.in_default.is _ c.supply_at_odds.ensures
    c.in-Some-supply_at_odds.is
    c.refused-in-Some-supply_at_odds.ensures

pub returns-in_err-n : goal.returns-in_err-n
returns-in_err-n c =
    let p = err_from_is_err_and c.from_residual.result c.from_residual.ensures.1 in
    rw (p.1, p.2) (supply-unread _ _ _ _ c.read.ensures _ c.in_err-n.was)

pub returns : goal.returns
returns c = supply-passed _ _ _ _ c.read.ensures _ c.in_ok-n.was _ _ _ c.over_limit-counts.ensures c.in_default.is _ c.supply_at_odds.ensures c.in_default-supply_at_odds.is
