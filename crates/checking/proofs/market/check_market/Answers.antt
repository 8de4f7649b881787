-- The constraint, then supply. Assumes nothing.
use Rattle.std.proofs.lemmas.Result.{err_from_is_err_and}
use Rattle.checking.proofs.StepLaws.{market-unread, market-unsupplied, market-passed}
use Rattle.checking.proofs.market.check_market.Goals as goal

pub returns-in_err-row : goal.returns-in_err-row
returns-in_err-row c =
    let p = err_from_is_err_and c.from_residual.result c.from_residual.ensures.1 in
    rw (p.1, p.2) (market-unread _ _ _ _ c.read_constraint.ensures c.in_err-row.was)

pub returns-in_err-supplied : goal.returns-in_err-supplied
returns-in_err-supplied c =
    let p = err_from_is_err_and c.from_residual-in_err-supplied.result c.from_residual-in_err-supplied.ensures.1 in
    rw (p.1, p.2) (market-unsupplied _ _ _ _ c.read_constraint.ensures c.in_ok-row.was c.read_supply.ensures c.in_err-supplied.was)

pub returns : goal.returns
returns c = market-passed _ _ _ _ c.read_constraint.ensures c.in_ok-row.was c.read_supply.ensures c.in_ok-supplied.was
