-- By the kind. Assumes nothing.
use native.Mathlib.Omega.{arith}
use Rattle.capping.proofs.DayInLaws.{unit-market, unit-cost, unit-neither}
use Rattle.capping.proofs.days.unit_in.Goals as goal

pub returns-then-kind-eq-M : goal.returns-then-kind-eq-M
returns-then-kind-eq-M c = unit-market _ _ _ (omega arith)

pub returns-then-kind-eq-C : goal.returns-then-kind-eq-C
returns-then-kind-eq-C c = unit-cost _ _ _ (omega arith)

pub returns : goal.returns
returns c = unit-neither _ _ _ (λ e. omega arith) (λ e. omega arith)
