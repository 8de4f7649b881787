-- 7, then the rest. Assumes nothing.
use Rattle.std.proofs.lemmas.Result.{err_from_is_err_and}
use borrow.Author.Rules.{rules}
use Rattle.checking.proofs.PricedRuleLaws.{rows-not-known, rows-known}
use Rattle.checking.proofs.rules.hold.Goals as goal

pub returns-in_err-answer : goal.returns-in_err-answer
returns-in_err-answer c =
    let p = err_from_is_err_and c.from_residual.result c.from_residual.ensures.1 in
    rw (p.1, p.2) (rows-not-known _ _ _ _ _ _ (search rules) c.in_err-answer.was)

pub returns : goal.returns
returns c = rows-known _ _ _ _ _ _ (search rules) c.in_ok-answer.was _ _ c.hold_priced.ensures
