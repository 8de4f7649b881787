-- The kind of the unit at the place where it is found. Assumes nothing.
use mathlib.Core.Path.{◌≡◌, ◌∙◌}
use native.Mathlib.Omega.{arith}
use lib.ListN.{length}
use Rattle.running.proofs.ViewLaws.{mapped}
use Rattle.running.proofs.AskingLaws.{within, kind-here, kind-nowhere}
use borrow.Author.Rules.{rules}
use Rattle.running.proofs.units.Units.day_kind.Goals as goal

pub offset_bounds-self-at : goal.offset_bounds-self-at
offset_bounds-self-at c = omega (arith, within c.args.self _ c.place_of.ensures c.in_ok-at.was)

pub bounds-self-at : goal.bounds-self-at
bounds-self-at c = omega (arith, within c.args.self _ c.place_of.ensures c.in_ok-at.was)

pub returns-in_err-at : goal.returns-in_err-at
returns-in_err-at c = c.from_residual.ensures ∙ kind-nowhere c.args.self _ c.place_of.ensures c.in_err-at.was

pub returns : goal.returns
returns c =
    let self = c.args.self in
    let places : length self.running ≡ 64 = search (rules, mapped) in
    kind-here self _ c.place_of.ensures c.in_ok-at.was (omega (arith, within self _ c.place_of.ensures c.in_ok-at.was))
