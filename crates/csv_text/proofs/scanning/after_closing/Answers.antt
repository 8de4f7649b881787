-- A byte behind a DQUOTE in an escaped field. Assumes nothing.
use borrow.Author.Tests.{eq-eqb, ne_eqb}
use Rattle.csv_text.specs.Records.{next}
use Rattle.csv_text.proofs.scanning.after_closing.Goals as goal

pub returns-then-b-eq-DQUOTE : goal.returns-then-b-eq-DQUOTE
unfolding next
returns-then-b-eq-DQUOTE c = simp (eq-eqb _ _ c.if-b-eq-DQUOTE.true)

pub returns : goal.returns
unfolding next
returns c = simp (ne_eqb _ _ c.if-b-eq-DQUOTE.false) c.after_field.ensures
