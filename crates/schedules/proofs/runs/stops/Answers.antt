-- A row of another unit, or one that the steps of its schedule end at. Assumes nothing.
use Rattle.links.proofs.LinkLaws.{rows-length, rows-by-schedule}
use Rattle.schedules.proofs.RunLaws.{stops-other, stops-own}
use native.Mathlib.Omega.{arith}
use Rattle.schedules.proofs.runs.stops.Goals as goal

pub returns-then-cell-unit : goal.returns-then-cell-unit
returns-then-cell-unit c = stops-other _ _ _ _ (omega arith)

pub slice_bounds-runs-count : goal.slice_bounds-runs-count
slice_bounds-runs-count c = omega (arith, rows-length c.requires.rows_linked)

pub slice_bounds-runs-start : goal.slice_bounds-runs-start
slice_bounds-runs-start c = omega (arith, rows-length c.requires.rows_linked)

pub runs-requires : goal.runs-requires
runs-requires c =
    let pre = c.requires in
    record { schedule_width_in_bounds = pre.schedule_width_in_bounds; linked = rows-by-schedule pre.rows_linked; k_lt_n = pre.k_lt_n; hour_le_last_hour = pre.hour_le_last_hour; permitted_schedule = pre.permitted_schedule }

pub returns : goal.returns
returns c = stops-own _ _ _ _ _ (omega arith) c.runs.ensures
