-- The first record whose chain comes back, one row a turn. Assumes nothing.
use native.Mathlib.Omega.{arith}
use Rattle.affiliates.proofs.WalkLaws.{searching-none, searching-ranged, searching-here, searching-next, searching-over}
use Rattle.affiliates.proofs.chains.ringed.Goals as goal

pub loop-i-init : goal.loop-i-init
loop-i-init c = searching-none _ _ _ c.requires.parent_cells c.requires.parents_in

pub comes_back-requires : goal.comes_back-requires
comes_back-requires c =
    let s = c.loop-i.invariant in
    record { parent_run = s.parents-in.a-run; at_le_highest_supplier = searching-ranged _ _ _ _ s c.loop-i-test.true }

pub returns-then-comes_back : goal.returns-then-comes_back
returns-then-comes_back c =
    searching-here _ _ _ _ c.loop-i.invariant (omega arith) _ _ c.comes_back.ensures
    (omega arith)
    c.if-comes_back.true

pub loop-i-preserved : goal.loop-i-preserved
loop-i-preserved c =
    searching-next _ _ _ _ c.loop-i.invariant (omega arith) _ _ c.comes_back.ensures
    (omega arith)
    c.if-comes_back.false

pub returns : goal.returns
returns c = searching-over _ _ _ _ c.loop-i.invariant (omega arith)
