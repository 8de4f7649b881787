-- A study, told by its numbers and kept in its cells. Assumes nothing.
use Rattle.capping.proofs.ExportLaws.{day-studied, told-right}
use Rattle.capping.proofs.day_calls.capping_day_study.Goals as goal

pub returns : goal.returns
returns c =
    let seen = c.day_in-given.ensures in
    record { day_studied = day-studied _ _ _ seen _ _ _ _ c.study-studied.ensures.studies c.told_by-told.ensures c.count_of.ensures c.report_on.ensures c.keep.ensures; told_right = told-right _ _ seen _ _ c.study-studied.result c.study-studied.ensures.answers_right c.count_of.ensures }
