-- A byte where a field begins. Assumes nothing.
use borrow.Author.Tests.{eq-eqb, ne_eqb}
use Rattle.csv_text.specs.Records.{next}
use Rattle.csv_text.proofs.scanning.after_begin.Goals as goal

pub returns-then-b-eq-DQUOTE : goal.returns-then-b-eq-DQUOTE
unfolding next
returns-then-b-eq-DQUOTE c = simp (eq-eqb _ _ c.if-b-eq-DQUOTE.true)

pub returns-then-textdata : goal.returns-then-textdata
unfolding next
returns-then-textdata c = simp (ne_eqb _ _ c.if-b-eq-DQUOTE.false, ← c.textdata.ensures, c.if-textdata.true)

pub returns : goal.returns
unfolding next
returns c = simp (ne_eqb _ _ c.if-b-eq-DQUOTE.false, ← c.textdata.ensures, c.if-textdata.false) c.after_field.ensures
