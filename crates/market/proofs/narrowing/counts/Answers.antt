-- Whether a row is eligible and supplies something. Assumes nothing.
use Rattle.market.specs.promises.Narrowing.{counts}
use Rattle.market.proofs.narrowing.counts.Goals as goal

pub returns-then-is_eligible : goal.returns-then-is_eligible
unfolding counts
returns-then-is_eligible c = simp (← c.is_eligible.ensures, c.if-is_eligible.true, c.effective_supply.ensures)

pub returns : goal.returns
unfolding counts
returns c = simp (← c.is_eligible.ensures, c.if-is_eligible.false)
