-- Decided first, then answered; demand 3 from the outcome. Assumes nothing.
use Rattle.checking.specs.Files.{files}
use Rattle.outcome.proofs.Sound.{day-formed}
use Rattle.engine.specs.View.{view_of}
use Rattle.engine.proofs.FormingLaws.{formed-units}
use Rattle.engine.proofs.StudyLaws.{study-refused, study-answered, answers-right}
use Rattle.engine.proofs.day.Day.study.Goals as goal

pub answer_rows-requires : goal.answer_rows-requires
unfolding view_of
answer_rows-requires c =
    let laid = c.decide-deciding.ensures.decides _ c.in-Ok.is in
    let args = c.args in
    let formed = day-formed (view_of args.self) (files args.constraint.now args.supply.now args.schedules.now args.curves.now args.parents.now) laid.accepted in
    record { units_value = formed-units args.self formed; rows_ready = laid.ready }

pub returns-in-Err : goal.returns-in-Err
returns-in-Err c =
    let studies = study-refused _ _ _ _ (c.decide-deciding.ensures.refuses _ c.in-Err.is) _ c.refuse_study.ensures in
    record { studies = studies; answers_right = answers-right _ _ _ _ _ studies }

pub returns-in-Ok : goal.returns-in-Ok
returns-in-Ok c =
    let laid = c.decide-deciding.ensures.decides _ c.in-Ok.is in
    let studies = study-answered _ _ _ laid.accepted _ laid.at-hour _ laid.laid _ _ c.answer_rows.ensures in
    record { studies = studies; answers_right = answers-right _ _ _ _ _ studies }
