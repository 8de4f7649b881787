-- A preview, told by its numbers. Assumes nothing.
use Rattle.capping.proofs.PreviewLaws.{preview-told, shown-right}
use Rattle.capping.proofs.previewing.capping_preview.Goals as goal

pub returns : goal.returns
returns c =
    let seen = c.day_in-given.ensures in
    let previews = c.preview-previewed.ensures.previews in
    record { preview_told = preview-told _ _ seen _ _ _ previews _ _ c.show.ensures c.told_by-told.ensures c.report_on.ensures; shown_right = shown-right _ _ seen _ _ _ previews _ _ c.show.ensures c.told_by-told.ensures }
