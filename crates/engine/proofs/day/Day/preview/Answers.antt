-- Decided first, as a study is, and then the unit's row; demand 3 from there. Assumes nothing.
use mathlib.Core.Path.{◌∙◌, ap}
use Rattle.engine.specs.promises.Answering.{looked_at}
use Rattle.engine.proofs.PreviewLaws.{preview-refused, preview-answered, previews-right}
use Rattle.engine.proofs.day.Day.preview.Goals as goal

pub row_for-requires : goal.row_for-requires
row_for-requires c = (c.decide-deciding.ensures.decides _ c.in-Ok.is).ready.there

pub returns-in-Err : goal.returns-in-Err
returns-in-Err c =
    let refuses = c.decide-deciding.ensures.refuses _ c.in-Err.is in
    let previews = preview-refused _ _ _ _ _ refuses c.looked_at.ensures in
    record { previews = previews; previews_right = previews-right _ _ _ _ previews }

pub returns-in-Ok : goal.returns-in-Ok
returns-in-Ok c =
    let laid = c.decide-deciding.ensures.decides _ c.in-Ok.is in
    let answered = c.looked_at-in-Ok.ensures ∙ ap (looked_at _) c.row_for.ensures in
    let previews = preview-answered _ _ _ _ laid.accepted _ laid.laid answered in
    record { previews = previews; previews_right = previews-right _ _ _ _ previews }
