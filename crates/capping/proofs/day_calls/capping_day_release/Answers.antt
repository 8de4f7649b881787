-- A release, told by its numbers and kept in its cells. Assumes nothing.
use Rattle.capping.proofs.ExportLaws.{day-released}
use Rattle.capping.proofs.day_calls.capping_day_release.Goals as goal

pub returns : goal.returns
returns c =
    day-released _ _ _ c.day_in-given.ensures _ _ c.release-released.ensures c.told_by-told.ensures c.report_on.ensures c.keep.ensures
