-- The first record that ends its curve below ecomin. Assumes nothing.
use Rattle.curves.proofs.EndLaws.{ending-none, ending_here, ending-next, ending-over}
use Rattle.curves.proofs.ending.ends_low.Goals as goal

pub loop-i-init : goal.loop-i-init
loop-i-init c = let pre = c.requires in ending-none _ _ _ _ _ _ pre.point_cells pre.row_cells pre.placed pre.lasts_in

pub returns-then-is_low_end : goal.returns-then-is_low_end
returns-then-is_low_end c = ending_here _ _ _ _ _ _ _ c.loop-i.invariant c.loop-i-test.true _ _ _ c.link_at-place.ensures c.link_at.ensures c.is_low_end.ensures c.if-is_low_end.true

pub loop-i-preserved : goal.loop-i-preserved
loop-i-preserved c = ending-next _ _ _ _ _ _ _ c.loop-i.invariant c.loop-i-test.true _ _ _ c.link_at-place.ensures c.link_at.ensures c.is_low_end.ensures c.if-is_low_end.false

pub returns : goal.returns
returns c = ending-over _ _ _ _ _ _ _ c.loop-i.invariant c.loop-i-test.false
