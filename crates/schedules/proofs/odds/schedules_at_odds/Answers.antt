-- The first row at odds with an earlier one. Assumes nothing.
use Rattle.links.proofs.LinkLaws.{linked_to, rows-by-unit}
use Rattle.schedules.proofs.OddsLaws.{agreeing-none, agreeing-here, agreeing-next, agreeing-over}
use Rattle.schedules.proofs.odds.schedules_at_odds.Goals as goal

pub loop-k-init : goal.loop-k-init
loop-k-init c = agreeing-none _ _

pub at_odds_before-requires-clause-linked_to : goal.at_odds_before-requires-clause-linked_to
at_odds_before-requires-clause-linked_to c = linked_to _ (rows-by-unit c.requires.rows_linked) c.loop-k-test.true

pub at_odds_before-requires-clause-linked_to_2 : goal.at_odds_before-requires-clause-linked_to_2
at_odds_before-requires-clause-linked_to_2 c = linked_to _ c.requires.rows_linked.by-schedule c.loop-k-test.true

pub returns-then-at_odds_before : goal.returns-then-at_odds_before
returns-then-at_odds_before c = agreeing-here _ _ _ _ c.loop-k.invariant c.loop-k-test.true c.at_odds_before.ensures c.if-at_odds_before.true

pub loop-k-preserved : goal.loop-k-preserved
loop-k-preserved c = agreeing-next _ _ _ _ c.loop-k.invariant c.loop-k-test.true c.at_odds_before.ensures c.if-at_odds_before.false

pub returns : goal.returns
returns c = agreeing-over _ _ _ c.loop-k.invariant c.loop-k-test.false
