-- The choice, along the rows of the unit's key. Assumes nothing.
use Prim.Native.Nat.{◌-◌}
use mathlib.Core.Path.{◌∙◌}
use Rattle.choice.proofs.choosing.choose.Goals.{then-offers, else-offers}
use native.Mathlib.Omega.{arith}
use Rattle.links.proofs.LinkLaws.{rows-length, walk-less, walk-next, walk-over}
use Rattle.choice.specs.Schedules.{eligible_schedule}
use Rattle.choice.specs.Choosing.{candidates, choice}
use Rattle.choice.proofs.UnitLaws.{row_here}
use Rattle.choice.proofs.ChoiceLaws.{offered-hour, weighed-own, weighed-not, best-walk, best-over}
use Rattle.choice.proofs.choosing.choose.Goals as goal

pub link_at-left-requires : goal.link_at-left-requires
link_at-left-requires c = omega (arith, rows-length c.requires.rows_linked)

pub loop-left-init : goal.loop-left-init
loop-left-init c = rw c.link_at-left.ensures (let key = c.unit_key.ensures in best-walk _ _ _ _ _ _ _ _ c.requires.rows_linked key.0 key.1)

pub offers-requires : goal.offers-requires
offers-requires c = row_here _ _ c.requires.schedule_cells _ (omega arith)

pub shown-requires : goal.shown-requires
shown-requires c =
    let k = c.loop-left.left - 1 in
    record { schedule_cells = c.requires.schedule_cells; rows_linked = c.requires.rows_linked; i_lt_n = omega arith; hour_le_last_hour = offered-hour _ _ _ _ c.offers.ensures c.if-offers.true (row_here _ _ c.requires.schedule_cells k (omega arith)).ranged }

pub loop-left-smaller : goal.loop-left-smaller
loop-left-smaller c = rw c.link_at-left-in-loop-left.ensures (walk-less _ _ _ _ _ _ c.loop-left.invariant c.loop-left-test.true)

pub loop-left-preserved : goal.loop-left-preserved
loop-left-preserved c = rw c.link_at-left-in-loop-left.ensures (let offered = c.offers.ensures in
    walk-next _ _ _ _ _ _ c.loop-left.invariant c.loop-left-test.true _
    (elim c.if-offers.branch [
      | then-offers w ↦ w.best-is ∙ weighed-own _ _ _ _ _ _ _ _ offered w.if-offers.true w.shown.ensures w.kept-best.ensures
      | else-offers w ↦ w.best-is ∙ weighed-not _ _ _ _ _ _ _ _ offered w.if-offers.false
    ]))

pub returns : goal.returns
unfolding choice candidates eligible_schedule
returns c = best-over _ _ _ _ _ _ _ (walk-over _ _ _ _ _ _ c.loop-left.invariant c.loop-left-test.false) ∙ simp (c.eligible_kinds-kinds.ensures, c.has_any.ensures)
