-- A row against those that its links lead to, one a turn. Assumes nothing.
use mathlib.Core.Path.{sym, ◌∙◌}
use Rattle.links.proofs.LinkLaws.{along-here, along-less, along-next, along-over}
use Rattle.schedules.proofs.SearchLaws.{earlier-any}
use Rattle.schedules.proofs.odds.at_odds_along.Goals as goal

pub loop-left-init : goal.loop-left-init
loop-left-init c = rw c.link_at-left.ensures c.requires.along

pub returns-then-at_odds : goal.returns-then-at_odds
returns-then-at_odds c = along-here _ _ _ _ c.loop-left.invariant c.loop-left-test.true (sym c.at_odds.ensures ∙ c.if-at_odds.true) ∙ sym (earlier-any _ _ _)

pub loop-left-smaller : goal.loop-left-smaller
loop-left-smaller c = rw c.link_at-left-in-loop-left.ensures (along-less _ _ _ _ c.loop-left.invariant c.loop-left-test.true)

pub loop-left-preserved : goal.loop-left-preserved
loop-left-preserved c = rw c.link_at-left-in-loop-left.ensures (along-next _ _ _ _ c.loop-left.invariant c.loop-left-test.true (sym c.at_odds.ensures ∙ c.if-at_odds.false))

pub returns : goal.returns
returns c = along-over _ _ _ _ c.loop-left.invariant c.loop-left-test.false ∙ sym (earlier-any _ _ _)
