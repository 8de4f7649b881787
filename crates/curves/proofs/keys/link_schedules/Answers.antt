-- Rows linked one a turn. Assumes nothing.
use Prim.Native.Nat.{◌+◌}
use mathlib.Core.Path.{◌∙◌}
use Rattle.links.specs.promises.Links.{most_linked}
use Rattle.links.proofs.LinkLaws.{linking-none, linking-next, linking-over}
use Rattle.curves.proofs.keys.link_schedules.Goals as goal

pub loop-k-init : goal.loop-k-init
loop-k-init c = let pre = c.requires in linking-none _ _ _ _ pre.n_le_most_linked pre.own_keys_in_bounds (λ x h. pre.unlinked (most_linked + x))

pub loop-k-preserved : goal.loop-k-preserved
loop-k-preserved c =
    linking-next _ _ _ _ _ _ c.loop-k.invariant c.loop-k-test.true (c.own_key-key.ensures.0 ∙ rw (c.cell-unit.ensures, c.cell.ensures))
    c.own_key-key.ensures.1 _ c.link.ensures

pub returns : goal.returns
returns c = linking-over _ _ _ _ _ c.loop-k.invariant c.loop-k-test.false
