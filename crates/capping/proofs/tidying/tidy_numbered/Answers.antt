-- The file by its number. Assumes nothing.
use native.Mathlib.Omega.{arith}
use Rattle.capping.proofs.TidyLaws.{is-constraint, is-supply, is-schedules, is-no-file, no-such-file}
use Rattle.capping.proofs.tidying.tidy_numbered.Goals as goal

pub returns-then-file-eq-CONSTRAINT : goal.returns-then-file-eq-CONSTRAINT
returns-then-file-eq-CONSTRAINT c = rw (is-constraint c.args.file (omega arith)) c.tidy_constraint.ensures

pub returns-then-file-eq-SUPPLY : goal.returns-then-file-eq-SUPPLY
returns-then-file-eq-SUPPLY c = rw (is-supply c.args.file (omega arith)) c.tidy_supply.ensures

pub returns-then-file-eq-SCHEDULES : goal.returns-then-file-eq-SCHEDULES
returns-then-file-eq-SCHEDULES c = rw (is-schedules c.args.file (omega arith)) c.tidy_schedules.ensures

pub returns : goal.returns
returns c =
    rw (c.bare.ensures, is-no-file c.args.file (λ e. omega arith) (λ e. omega arith) (λ e. omega arith)) (no-such-file _)
