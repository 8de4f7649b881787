-- 35, then 36, then the heads. Assumes nothing.
use Rattle.affiliates.proofs.LayingLaws.{cleared}
use Rattle.checking.proofs.ParentsLaws.{rows-given-twice, parents-in, rows-ringed, rows-grouped}
use Rattle.checking.proofs.parents_file.group_rows.Goals as goal

pub lay_parents-requires-clause-cleared : goal.lay_parents-requires-clause-cleared
lay_parents-requires-clause-cleared c = cleared 1000

pub returns-in-Some : goal.returns-in-Some
returns-in-Some c = rows-given-twice _ _ _ _ c.lay_parents.ensures _ _ c.in-Some.is c.refused.ensures

pub ringed-requires-clause-parents_in : goal.ringed-requires-clause-parents_in
ringed-requires-clause-parents_in c = parents-in _ _ _ _ c.lay_parents.ensures c.in_default.is

pub returns-in-Some-ringed : goal.returns-in-Some-ringed
returns-in-Some-ringed c = rows-ringed _ _ _ _ c.lay_parents.ensures c.in_default.is _ _ _ c.ringed.ensures c.in-Some-ringed.is c.refused-in-Some-ringed.ensures

pub group-requires-clause-parent_run : goal.group-requires-clause-parent_run
group-requires-clause-parent_run c = (parents-in _ _ _ _ c.lay_parents.ensures c.in_default.is).a-run

pub returns : goal.returns
returns c = rows-grouped _ _ _ _ c.lay_parents.ensures c.in_default.is _ _ _ c.ringed.ensures c.in_default-ringed.is _ c.group.ensures
