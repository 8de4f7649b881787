-- Whether there are too many, by the two tests. Assumes nothing.
use native.Mathlib.Omega.{arith}
use Rattle.supply.proofs.SupplyLaws.{too-many-units, few-units}
use Rattle.supply.proofs.rows.too_many.Goals as goal

pub returns-then-units-gt-UNITS : goal.returns-then-units-gt-UNITS
returns-then-units-gt-UNITS c = too-many-units _ _ (omega arith)

pub returns : goal.returns
returns c = few-units _ _ (omega arith)
