-- Units by their count, and one after the other. Assumes nothing.
use mathlib.Core.Path.{◌≡◌, sym, ◌∙◌}
use native.Mathlib.Omega.{arith}
use borrow.Author.Rules.{rules}
use lib.ListN.{length, take}
use Rattle.base.proofs.Lists.{drop-next, drop-end}
use Rattle.running.specs.View.{units_of}
use Rattle.running.proofs.ViewLaws.{unused, counted, first-map, mapped}
use Rattle.running.proofs.FormingLaws.{over, by_units, falls, strays, rises, risen}
use Rattle.running.proofs.units.Units.is_formed.Goals as goal

pub returns-then-count-gt-MOST : goal.returns-then-count-gt-MOST
returns-then-count-gt-MOST c = sym (over _ (omega (arith, counted c.args.self)))

pub loop-r-init : goal.loop-r-init
unfolding units_of
loop-r-init c =
    let self = c.args.self in
    let places : length self.running ≡ 64 = search (rules, mapped) in
    by_units (units_of self) (omega (arith, counted self)) ∙ rw (first-map self.count self.running (omega arith))

pub returns-then-r-last : goal.returns-then-r-last
returns-then-r-last c =
    let self = c.args.self in
    let loop = c.loop-r in
    sym (loop.invariant ∙ rw (drop-next unused loop.r-index (take self.count self.running) (omega arith)) (falls _ _ _ (omega arith)))

pub returns-else-unit_in_range : goal.returns-else-unit_in_range
returns-else-unit_in_range c =
    let self = c.args.self in
    let loop = c.loop-r in
    sym (loop.invariant ∙ rw (drop-next unused loop.r-index (take self.count self.running) (omega arith)) (strays _ _ _ (omega arith) (sym c.unit_in_range.ensures ∙ c.if-unit_in_range.false)))

pub loop-r-preserved : goal.loop-r-preserved
loop-r-preserved c =
    let self = c.args.self in
    let loop = c.loop-r in
    loop.invariant ∙ rw (drop-next unused loop.r-index (take self.count self.running) (omega arith)) (rises _ _ _ (omega arith) (sym c.unit_in_range.ensures ∙ c.if-unit_in_range.true))

pub returns : goal.returns
returns c =
    let self = c.args.self in
    let loop = c.loop-r in
    sym (loop.invariant ∙ rw (drop-end loop.r-index (take self.count self.running) (omega arith)) (risen _))
