-- Schedules beside a market, then their rows. Assumes nothing.
use mathlib.Core.Path.{refl}
use native.Mathlib.Omega.{arith}
use Rattle.std.proofs.lemmas.Result.{err_from_is_err_and}
use Rattle.checking.proofs.Rooms.{schedules-room}
use Rattle.links.proofs.LinkLaws.{unlinked}
use Rattle.engine.proofs.DecidingLaws.{schedules-refused, schedules-decided}
use Rattle.engine.proofs.StudyCells.{schedules-refuse, schedules-none, schedules-rows, schedules-linked, schedules-cells}
use Rattle.engine.proofs.day.Day.decide_market.Goals as goal

pub check_schedules-requires : goal.check_schedules-requires
check_schedules-requires c =
    let pre = c.requires in
    record { market_fits = record { hour = pre.market_cells.permitted.hour; listed = pre.units_of.there }; room_in_bounds = omega (arith, schedules-room); links_length_in_bounds = omega arith; unlinked = unlinked 5111 }

pub decide_rows-requires : goal.decide_rows-requires
decide_rows-requires c =
    let pre = c.requires in
    let checked = c.check_schedules.ensures in
    let told = c.in_ok-count.was in
    record { units_value = pre.units_value; market_cells = pre.market_cells; units_of = pre.units_of; schedule_cells = schedules-cells _ _ _ _ _ _ _ checked _ told (omega arith); rows_linked = schedules-linked _ _ _ _ _ _ _ checked _ told; answer_width_in_bounds = pre.answer_width_in_bounds }

pub returns-in_err-count : goal.returns-in_err-count
returns-in_err-count c =
    let units = c.requires.units_of in
    let p = err_from_is_err_and c.from_residual.result c.from_residual.ensures.1 in
    rw (p.1, p.2) (schedules-refused _ _ _ _ _ _ _ _ _ (rw units.listed at (schedules-refuse _ _ _ _ _ _ _ c.check_schedules.ensures _ c.in_err-count.was)) refl)

pub returns : goal.returns
returns c =
    let units = c.requires.units_of in
    let checked = c.check_schedules.ensures in
    let told = c.in_ok-count.was in
    schedules-decided _ _ _ _ _ _ _ _ (rw units.listed at (schedules-none _ _ _ _ _ _ _ checked _ told)) _ (schedules-rows _ _ _ _ _ _ _ checked _ told) c.decide_rows.ensures
