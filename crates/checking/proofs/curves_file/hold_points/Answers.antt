-- 32, then the rest. Assumes nothing.
use Rattle.checking.proofs.CurvesLaws.{point-stray, all_placed, points-held}
use Rattle.checking.proofs.curves_file.hold_points.Goals as goal

pub returns-in-Some : goal.returns-in-Some
returns-in-Some c = point-stray _ _ _ _ _ _ c.place_points.ensures c.in-Some.is c.refused.ensures

pub hold_curves-requires : goal.hold_curves-requires
hold_curves-requires c =
    let pre = c.requires in
    record { point_cells = pre.point_cells; row_cells = pre.row_cells; placed = all_placed _ _ _ _ _ _ c.place_points.ensures c.in_default.is }

pub returns : goal.returns
returns c = points-held _ _ _ _ _ _ c.place_points.ensures c.in_default.is _ _ c.hold_curves.ensures
