-- The search for a unit among the running ones. Assumes nothing.
use Prim.Native.Nat.{◌<◌}
use mathlib.Core.Path.{◌≡◌}
use native.Mathlib.Omega.{arith}
use borrow.Author.Rules.{rules}
use lib.ListN.{length}
use lib.Seq.{length-take-le}
use Rattle.running.specs.View.{units_of}
use Rattle.running.proofs.ViewLaws.{mapped, first-length}
use Rattle.running.proofs.PlaceLaws.{place-found, place-here, place-nowhere}
use Rattle.running.proofs.units.Units.place_of.Goals as goal

pub returns-then-r-unit : goal.returns-then-r-unit
unfolding units_of
returns-then-r-unit c =
    let self = c.args.self in
    let loop = c.loop-i in
    let places : length self.running ≡ 64 = search (rules, mapped) in
    let within : loop.i < self.count = omega (arith, length-take-le self.count self.running (omega arith)) in
    place-here _ loop.i _ (place-found _ self.count loop.i self.running (omega arith) (omega arith) loop.invariant (λ _. omega arith)) (omega (arith, first-length self.count self.running))

pub returns : goal.returns
unfolding units_of
returns c =
    let self = c.args.self in
    let places : length self.running ≡ 64 = search (rules, mapped) in
    let counted = length-take-le self.count self.running (omega arith) in
    place-nowhere _ _ (omega (arith, first-length self.count self.running, place-found _ self.count self.count self.running (omega arith) (omega arith) (λ k h. c.loop-i.invariant k (omega (arith, counted))) (λ h. absurd (omega arith))))
