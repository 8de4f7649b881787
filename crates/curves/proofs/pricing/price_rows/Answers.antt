-- Rows at the prices of their curves, one point a turn. Assumes nothing.
use Prim.Native.Nat.{◌-◌}
use native.Mathlib.Omega.{arith}
use Rattle.curves.proofs.PricingLaws.{pricing-none, pricing-next}
use Rattle.curves.proofs.pricing.price_rows.Goals as goal

pub loop-i-init : goal.loop-i-init
loop-i-init c = let pre = c.requires in pricing-none _ _ _ _ _ pre.point_cells pre.row_cells pre.placed

pub loop-i-preserved : goal.loop-i-preserved
loop-i-preserved c = pricing-next _ _ _ _ _ _ _ c.loop-i.invariant c.loop-i-test.true (c.link_at.result - 1) (omega arith) _ c.price_row.ensures
