-- What the next amount is to the others. Assumes nothing.
use native.Mathlib.Omega.{arith}
use borrow.Author.Tests.{eq-eqb, ne_eqb}
use Rattle.pivotal.specs.Fed.{other}
use Rattle.pivotal.proofs.feeding.FedTest.other.Goals as goal

pub returns-then-self : goal.returns-then-self
unfolding other
returns-then-self c =
    let t = c.args.self in
    simp (eq-eqb t.count t.place (omega arith))

pub returns-else-self : goal.returns-else-self
unfolding other
returns-else-self c =
    let t = c.args.self in
    simp (ne_eqb t.count t.place (λ e. omega arith))
