-- A byte behind the CR that ends a record. Assumes nothing.
use borrow.Author.Tests.{eq-eqb, ne_eqb}
use Rattle.csv_text.specs.Records.{next}
use Rattle.csv_text.proofs.scanning.after_ended.Goals as goal

pub returns-then-b-eq-LF : goal.returns-then-b-eq-LF
unfolding next
returns-then-b-eq-LF c = simp (eq-eqb _ _ c.if-b-eq-LF.true)

pub returns : goal.returns
unfolding next
returns c = simp (ne_eqb _ _ c.if-b-eq-LF.false)
