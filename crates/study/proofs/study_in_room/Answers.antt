-- A study of a fresh day, in room for the longest answer. Assumes nothing.
use Rattle.study.proofs.FreshLaws.{studies-fresh, never-short, count-within}
use Rattle.study.proofs.study_in_room.Goals as goal

pub returns-clause-studies_fresh : goal.returns-clause-studies_fresh
returns-clause-studies_fresh c = studies-fresh _ _ _ _ _ c.study-studied.ensures.studies c.fresh.ensures.result_value

pub returns-clause-room_enough : goal.returns-clause-room_enough
returns-clause-room_enough c = never-short _ _ _ _ _ c.study-studied.ensures.studies c.requires

pub returns-clause-result_in_bounds : goal.returns-clause-result_in_bounds
returns-clause-result_in_bounds c = count-within _ _ _ _ _ c.study-studied.ensures.studies
