-- The first row of a unit that is not in supply. Assumes nothing.
use Rattle.std.proofs.lemmas.Bool.{not_from_true, not_from_false}
use Rattle.links.proofs.LinkLaws.{linked_to, rows-by-unit}
use Rattle.schedules.proofs.ScheduleLaws.{known-none, known-here, known_next, known_over}
use Rattle.schedules.proofs.rows.not_in_supply.Goals as goal

pub loop-k-init : goal.loop-k-init
loop-k-init c = known-none _ _ _

pub is_known-requires-clause-linked_to : goal.is_known-requires-clause-linked_to
is_known-requires-clause-linked_to c = linked_to _ (rows-by-unit c.requires.rows_linked) c.loop-k-test.true

pub returns-then-not-is_known : goal.returns-then-not-is_known
returns-then-not-is_known c = known-here _ _ _ _ _ c.loop-k.invariant c.loop-k-test.true c.is_known.ensures (not_from_false _ c.if-not-is_known.true)

pub loop-k-preserved : goal.loop-k-preserved
loop-k-preserved c = known_next _ _ _ _ _ c.loop-k.invariant c.loop-k-test.true c.is_known.ensures (not_from_true _ c.if-not-is_known.false)

pub returns : goal.returns
returns c = known_over _ _ _ _ c.loop-k.invariant c.loop-k-test.false
