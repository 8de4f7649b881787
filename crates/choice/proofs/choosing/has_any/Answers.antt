-- The search for a schedule of some kinds, along the rows of the unit's key. Assumes nothing.
use mathlib.Core.Path.{sym, ◌∙◌}
use native.Mathlib.Omega.{arith}
use Rattle.links.proofs.LinkLaws.{rows-length, along-here, along-less, along-next, along-over}
use Rattle.choice.proofs.UnitLaws.{row_here}
use Rattle.choice.proofs.ChoiceLaws.{any-rows, along-offers}
use Rattle.choice.proofs.choosing.has_any.Goals as goal

pub link_at-left-requires : goal.link_at-left-requires
link_at-left-requires c = omega (arith, rows-length c.requires.rows_linked)

pub loop-left-init : goal.loop-left-init
loop-left-init c = rw c.link_at-left.ensures (let key = c.unit_key.ensures in along-offers _ _ _ _ _ _ _ c.requires.rows_linked key.0 key.1)

pub offers-requires : goal.offers-requires
offers-requires c = row_here _ _ c.requires.schedule_cells _ (omega arith)

pub returns-then-offers : goal.returns-then-offers
returns-then-offers c = along-here _ _ _ _ c.loop-left.invariant c.loop-left-test.true (sym c.offers.ensures ∙ c.if-offers.true) ∙ sym (any-rows _ _ _ _ _)

pub loop-left-smaller : goal.loop-left-smaller
loop-left-smaller c = rw c.link_at-left-in-loop-left.ensures (along-less _ _ _ _ c.loop-left.invariant c.loop-left-test.true)

pub loop-left-preserved : goal.loop-left-preserved
loop-left-preserved c = rw c.link_at-left-in-loop-left.ensures (along-next _ _ _ _ c.loop-left.invariant c.loop-left-test.true (sym c.offers.ensures ∙ c.if-offers.false))

pub returns : goal.returns
returns c = along-over _ _ _ _ c.loop-left.invariant c.loop-left-test.false ∙ sym (any-rows _ _ _ _ _)
