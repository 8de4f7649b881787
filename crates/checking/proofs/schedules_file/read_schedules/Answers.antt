-- Schedules read and linked, then held to rule 6. Assumes nothing.
use Rattle.std.proofs.lemmas.Result.{err_from_is_err_and}
use Rattle.checking.proofs.AloneLaws.{schedules-unread, schedules-fit, schedules-read}
use borrow.Author.Rules.{rules}
use Rattle.checking.proofs.schedules_file.read_schedules.Goals as goal

pub link_rows-requires : goal.link_rows-requires
link_rows-requires c =
    let fits = schedules-fit _ _ _ _ c.read.ensures _ c.in_ok-n.was (search rules) in
    record { n_le_most_linked = fits.0; schedule_width_in_bounds = fits.1; links_length_in_bounds = search rules; unlinked = search rules }

pub schedules_at_odds-requires : goal.schedules_at_odds-requires
schedules_at_odds-requires c = record { schedule_width_in_bounds = (schedules-fit _ _ _ _ c.read.ensures _ c.in_ok-n.was (search rules)).1; rows_linked = c.link_rows.ensures }

pub returns-in_err-n : goal.returns-in_err-n
returns-in_err-n c =
    let p = err_from_is_err_and c.from_residual.result c.from_residual.ensures.1 in
    rw (p.1, p.2) (schedules-unread _ _ _ _ c.read.ensures _ c.in_err-n.was)

pub returns : goal.returns
returns c = schedules-read _ _ _ _ c.read.ensures _ c.in_ok-n.was _ c.link_rows.ensures _ (search rules) _ c.answer.ensures
