-- 33, then 34, then the prices. Assumes nothing.
use native.Mathlib.Omega.{arith}
use Rattle.links.proofs.LinkLaws.{unlinked}
use Rattle.curves.proofs.PlacingLaws.{placed-curves}
use Rattle.checking.proofs.CurvesLaws.{points-disordered, lasts-in, curves-low, curves-priced}
use Rattle.checking.proofs.curves_file.hold_curves.Goals as goal

pub disordered-requires : goal.disordered-requires
disordered-requires c =
    let pre = c.requires in
    record { point_cells = pre.point_cells; curve_places = placed-curves pre.row_cells pre.placed; most_linked_in_bounds = omega arith; unlinked = unlinked 1025; most_linked_in_bounds_2 = omega arith; unlinked_2 = unlinked 1025 }

pub returns-in-Some : goal.returns-in-Some
returns-in-Some c = points-disordered _ _ _ _ _ c.disordered.ensures _ _ c.in-Some.is c.refused.ensures

pub ends_low-requires : goal.ends_low-requires
ends_low-requires c =
    let pre = c.requires in
    record { point_cells = pre.point_cells; row_cells = pre.row_cells; placed = pre.placed; lasts_in = lasts-in _ _ _ _ _ c.disordered.ensures c.in_default.is }

pub returns-in-Some-ends_low : goal.returns-in-Some-ends_low
returns-in-Some-ends_low c = curves-low _ _ _ _ _ c.disordered.ensures _ _ c.in_default.is _ c.ends_low.ensures c.in-Some-ends_low.is c.refused-in-Some-ends_low.ensures

pub returns : goal.returns
returns c = curves-priced _ _ _ _ _ c.disordered.ensures _ _ c.in_default.is _ c.ends_low.ensures c.in_default-ends_low.is _ c.price_rows.ensures
