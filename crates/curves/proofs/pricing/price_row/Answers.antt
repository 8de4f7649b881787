-- One point's price, in its row. Assumes nothing.
use native.Mathlib.Omega.{arith}
use Rattle.curves.proofs.PricingLaws.{stored-reached, stored_short}
use Rattle.curves.proofs.pricing.price_row.Goals as goal

pub returns-then-cell : goal.returns-then-cell
returns-then-cell c = stored-reached _ _ _ _ _ _ (omega arith) (omega arith) (omega arith)

pub returns-else-cell : goal.returns-else-cell
returns-else-cell c = stored_short _ _ _ _ (omega arith)
