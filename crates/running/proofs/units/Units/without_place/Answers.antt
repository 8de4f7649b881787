-- The places behind the unit that is taken out, moved one place forward. Assumes nothing.
use mathlib.Core.Path.{◌≡◌}
use native.Mathlib.Omega.{arith}
use borrow.Author.Rules.{rules}
use lib.ListN.{length}
use Rattle.running.specs.View.{units_of}
use Rattle.running.proofs.ViewLaws.{mapped}
use Rattle.running.proofs.PlaceLaws.{shifted}
use Rattle.running.proofs.units.Units.without_place.Goals as goal

pub returns : goal.returns
unfolding units_of
returns c =
    let self = c.args.self in
    let places : length self.running ≡ 64 = search (rules, mapped) in
    rw c.copy_within.ensures.after (shifted c.args.at self.count self.running (omega arith) (omega arith))
