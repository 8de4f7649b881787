-- Schedules read, then held to the market. Assumes nothing.
use Rattle.std.proofs.lemmas.Result.{err_from_is_err_and}
use Rattle.checking.proofs.StepLaws.{beside-unread, rows-linked, rows_fit, rows-checked, beside-passed}
use borrow.Author.Rules.{rules}
use Rattle.checking.proofs.schedules_file.check_schedules.Goals as goal

pub hold-requires : goal.hold-requires
hold-requires c =
    let read = c.read_schedules.ensures in let rows = c.in_ok-n.was in
    record { schedule_width_in_bounds = rows_fit _ _ _ read _ rows (search rules); rows_linked = rows-linked _ _ _ read _ rows; checked = rows-checked _ _ _ read _ rows _ (search rules) }

pub returns-in_err-n : goal.returns-in_err-n
returns-in_err-n c =
    let p = err_from_is_err_and c.from_residual.result c.from_residual.ensures.1 in
    rw (p.1, p.2) (beside-unread _ _ _ c.read_schedules.ensures _ _ _ _ c.in_err-n.was)

pub returns : goal.returns
returns c = beside-passed _ _ _ c.read_schedules.ensures _ c.in_ok-n.was _ _ _ _ _ _ c.hold.ensures
