-- A fresh day's study, told by its numbers. Assumes nothing.
use Rattle.capping.proofs.ExportLaws.{study-told, told-right}
use Rattle.capping.proofs.exports.capping_study.Goals as goal

pub returns : goal.returns
returns c =
    let fresh = c.fresh-day.ensures.result_value in
    record { study_told = study-told _ _ fresh _ _ _ _ c.study-studied.ensures.studies c.told_by.ensures c.count_of.ensures c.report_on.ensures; told_right = told-right _ _ fresh _ _ c.study-studied.result c.study-studied.ensures.answers_right c.count_of.ensures }
