-- The parents laid down, one row a turn. Assumes nothing.
use native.Mathlib.Omega.{arith}
use Rattle.affiliates.proofs.LayingLaws.{laying-none, laying-permitted, laying-here, laying-next, laying-over}
use Rattle.affiliates.proofs.parents.lay_parents.Goals as goal

pub loop-i-init : goal.loop-i-init
loop-i-init c =
    let pre = c.requires in
    laying-none _ _ _ pre.parent_cells pre.highest_supplier_in_bounds pre.cleared

pub at_place-requires : goal.at_place-requires
at_place-requires c =
    let l = c.loop-i.invariant in
    omega (arith, l.places, (laying-permitted _ _ _ _ _ l c.loop-i-test.true).supplier)

pub returns-then-at_place-ne0 : goal.returns-then-at_place-ne0
returns-then-at_place-ne0 c =
    laying-here _ _ _ _ _ c.loop-i.invariant (omega arith) _ _ (omega arith)
    c.at_place.ensures
    (omega arith)

pub overflow_cast-parents : goal.overflow_cast-parents
overflow_cast-parents c =
    let h = c.loop-i-test.true in
    omega (arith, (laying-permitted _ _ _ _ _ c.loop-i.invariant h).parent)

pub offset_bounds-parents-supplier : goal.offset_bounds-parents-supplier
offset_bounds-parents-supplier c =
    let h = c.loop-i-test.true in
    omega (arith, (laying-permitted _ _ _ _ _ c.loop-i.invariant h).supplier)

pub bounds-parents-supplier : goal.bounds-parents-supplier
bounds-parents-supplier c =
    let l = c.loop-i.invariant in
    let h = c.loop-i-test.true in
    omega (arith, l.places, (laying-permitted _ _ _ _ _ l h).supplier)

pub loop-i-preserved : goal.loop-i-preserved
loop-i-preserved c =
    laying-next _ _ _ _ _ c.loop-i.invariant (omega arith) _ _ (omega arith)
    c.at_place.ensures
    _
    (omega arith)
    (omega arith)

pub returns : goal.returns
returns c = laying-over _ _ _ _ _ c.loop-i.invariant (omega arith)
