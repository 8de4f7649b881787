-- The eligible kinds, in the definition's order. Assumes nothing.
use Rattle.choice.specs.Schedules.{eligible_kinds}
use Rattle.choice.proofs.kinds.eligible_kinds.Goals as goal

pub returns-then-on_cost : goal.returns-then-on_cost
unfolding eligible_kinds
returns-then-on_cost c = simp (← c.on_cost.ensures, c.if-on_cost.true)

pub returns-then-exposed : goal.returns-then-exposed
unfolding eligible_kinds
returns-then-exposed c = simp (← c.on_cost.ensures, c.if-on_cost.false, c.if-exposed.true)

pub returns-then-has_m : goal.returns-then-has_m
unfolding eligible_kinds
returns-then-has_m c = simp (← c.on_cost.ensures, c.if-on_cost.false, c.if-exposed.false, c.if-has_m.true)

pub returns-else-has_m : goal.returns-else-has_m
unfolding eligible_kinds
returns-else-has_m c = simp (← c.on_cost.ensures, c.if-on_cost.false, c.if-exposed.false, c.if-has_m.false)
