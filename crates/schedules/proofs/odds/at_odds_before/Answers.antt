-- An M row against those of its unit, another against those of its schedule. Assumes nothing.
use Rattle.schedules.proofs.OddsLaws.{along-units, along-schedules}
use lib.ListN.{drop, length-drop}
use Rattle.base.proofs.Lists.{rest-lent}
use native.Mathlib.Omega.{arith}
use Rattle.schedules.proofs.odds.at_odds_before.Goals as goal

pub at_odds_along-requires : goal.at_odds_along-requires
at_odds_along-requires c =
    let a = c.args in let pre = c.requires in
    record { schedule_width_in_bounds = pre.schedule_width_in_bounds; k_in_bounds = pre.linked_to.room; along = along-units a.cells.now a.k a.links.now pre.linked_to }

pub slice_bounds-at_odds_along-count : goal.slice_bounds-at_odds_along-count
slice_bounds-at_odds_along-count c = omega (arith, length-drop 2048 c.args.links.now, c.requires.linked_to_2.room)

pub slice_bounds-at_odds_along-start : goal.slice_bounds-at_odds_along-start
slice_bounds-at_odds_along-start c = omega (arith, length-drop 2048 c.args.links.now, c.requires.linked_to_2.room)

pub at_odds_along-requires-2 : goal.at_odds_along-requires-2
at_odds_along-requires-2 c =
    let a = c.args in let pre = c.requires in
    rw (rest-lent 2048 a.links.now) (record { schedule_width_in_bounds = pre.schedule_width_in_bounds; k_in_bounds = pre.linked_to_2.room; along = along-schedules a.cells.now a.k (drop 2048 a.links.now) (omega arith) pre.linked_to_2 })
