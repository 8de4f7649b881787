-- What reading parents answered, then 8 and 9. Assumes nothing.
use mathlib.Core.Path.{ap}
use Rattle.std.proofs.lemmas.Result.{err_from_is_err_and}
use Rattle.checking.specs.promises.Rules.{refusal_in}
use Rattle.checking.proofs.RuleLaws.{waits, none-waits}
use Rattle.checking.proofs.rules.hold_unpriced.Goals as goal

pub returns-in_err-parents : goal.returns-in_err-parents
returns-in_err-parents c =
    let p = err_from_is_err_and c.from_residual.result c.from_residual.ensures.1 in
    rw (p.1, p.2) (waits _ _ _ _ _ (ap refusal_in c.in_err-parents.was))

pub returns : goal.returns
returns c = none-waits _ _ _ _ _ (ap refusal_in c.in_ok-parents.was) c.hold_units.ensures
