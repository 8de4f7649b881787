-- What the rows have running, one row a turn. Assumes nothing.
use native.Mathlib.Omega.{arith}
use borrow.Author.Rules.{rules}
use Rattle.running.specs.View.{units_of}
use Rattle.running.proofs.ViewLaws.{mapped}
use Rattle.running.proofs.CommitLaws.{choosing-none, choosing-next, choosing-over}
use Rattle.running.proofs.units.Units.chosen.Goals as goal

pub loop-i-init : goal.loop-i-init
loop-i-init c = let pre = c.requires in choosing-none _ _ _ (search (rules, mapped)) pre.n_le_most_running pre.answer_width_in_bounds

pub chosen_at-r-requires : goal.chosen_at-r-requires
chosen_at-r-requires c = omega (arith, c.loop-i.invariant.room)

pub loop-i-preserved : goal.loop-i-preserved
loop-i-preserved c = choosing-next _ _ _ _ c.loop-i.invariant _ (omega arith) c.chosen_at-r.ensures

pub returns : goal.returns
unfolding units_of
returns c = choosing-over _ _ _ _ c.loop-i.invariant (omega arith)
