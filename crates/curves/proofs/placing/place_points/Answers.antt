-- Rows linked, and then the row of each point. Assumes nothing.
use native.Mathlib.Omega.{arith}
use Rattle.links.proofs.LinkLaws.{unlinked}
use Rattle.curves.proofs.placing.place_points.Goals as goal

pub link_schedules-requires : goal.link_schedules-requires
link_schedules-requires c =
    let pre = c.requires in
    record { n_le_most_linked = pre.n_le_most_linked; schedule_width_in_bounds = pre.schedule_width_in_bounds; unit_places_in_bounds = omega arith; own_keys_in_bounds = omega arith; unlinked = unlinked 9216 }
