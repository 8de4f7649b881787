-- Curves, then what reading parents answered, then 8 and 9. Assumes nothing.
use mathlib.Core.Path.{ap}
use native.Mathlib.Omega.{arith}
use Rattle.std.proofs.lemmas.Result.{err_from_is_err_and}
use Rattle.checking.specs.promises.Rules.{refusal_in}
use Rattle.checking.proofs.PricedRuleLaws.{still-linked, still-checked, curves-refused, waited, units-held, held-unpriced}
use borrow.Author.Rules.{rules}
use Rattle.checking.proofs.rules.hold_priced.Goals as goal

pub returns-then-curves-eq0 : goal.returns-then-curves-eq0
returns-then-curves-eq0 c = held-unpriced _ (omega arith) _ _ _ _ _ _ c.hold_unpriced.ensures

pub hold_units-requires : goal.hold_units-requires
hold_units-requires c =
    let pre = c.requires in let checked = c.check_curves-in-Ok.ensures in let passed = c.in_ok-check_curves-in-Ok.was in
    record { schedule_width_in_bounds = search rules; rows_linked = still-linked _ _ _ _ checked passed pre.rows_linked; checked = still-checked _ _ _ _ checked passed _ pre.checked }

pub returns-in-Err-check_curves : goal.returns-in-Err-check_curves
returns-in-Err-check_curves c = curves-refused _ _ _ _ c.check_curves.ensures _ _ _ c.in-Err-check_curves.is

pub returns-in-Ok-check_curves : goal.returns-in-Ok-check_curves
returns-in-Ok-check_curves c = waited _ _ _ _ c.check_curves.ensures _ _ _ c.in-Ok-check_curves.is (ap refusal_in c.in-Err.is)

pub returns-in_err-check_curves-in-Ok : goal.returns-in_err-check_curves-in-Ok
returns-in_err-check_curves-in-Ok c =
    let p = err_from_is_err_and c.from_residual.result c.from_residual.ensures.1 in
    rw (p.1, p.2) (curves-refused _ _ _ _ c.check_curves-in-Ok.ensures _ _ _ c.in_err-check_curves-in-Ok.was)

pub returns-in_ok-check_curves-in-Ok : goal.returns-in_ok-check_curves-in-Ok
returns-in_ok-check_curves-in-Ok c = units-held _ _ _ _ c.check_curves-in-Ok.ensures _ _ _ c.in_ok-check_curves-in-Ok.was (ap refusal_in c.in-Ok.is) c.hold_units.ensures
