-- Rows against the last of their key, one row a turn. Assumes nothing.
use Rattle.supply.proofs.SupplyLaws.{agreeing-none, agreeing-here, agreeing-next, agreeing-over, last-keyed, keyed-upto}
use native.Mathlib.Omega.{arith}
use Rattle.supply.proofs.rows.first_at_odds.Goals as goal

pub loop-k-init : goal.loop-k-init
loop-k-init c = agreeing-none _ _ _ (omega arith) (omega arith) c.requires.unlinked

pub at_odds_with_last-requires : goal.at_odds_with_last-requires
at_odds_with_last-requires c =
    let a = c.loop-k.invariant in let key = c.unit_key-key.ensures in let last = last-keyed _ _ _ _ a key.0 key.1 in
    record { supply_width_in_bounds = omega arith; left_le_k = keyed-upto c.args.cells.now _ _ last; left_value = last; agree_before = a.agree }

pub returns-then-at_odds_with_last : goal.returns-then-at_odds_with_last
returns-then-at_odds_with_last c = agreeing-here _ _ _ _ _ _ c.loop-k.invariant c.loop-k-test.true c.at_odds_with_last.ensures c.if-at_odds_with_last.true

pub loop-k-preserved : goal.loop-k-preserved
loop-k-preserved c = let key = c.unit_key-key.ensures in agreeing-next _ _ _ _ _ _ c.loop-k.invariant c.loop-k-test.true c.at_odds_with_last.ensures _ _ c.if-at_odds_with_last.false key.0 key.1 (omega arith)

pub returns : goal.returns
returns c = agreeing-over _ _ _ _ _ c.loop-k.invariant c.loop-k-test.false
