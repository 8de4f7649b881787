-- Quotes open and close. Assumes nothing.
use borrow.Author.Tests.{eq-eqb, ne_eqb}
use Rattle.csv_text.proofs.fields.turned.Goals as goal

pub returns-then-b-eq-DQUOTE : goal.returns-then-b-eq-DQUOTE
returns-then-b-eq-DQUOTE c = simp (eq-eqb _ _ c.if-b-eq-DQUOTE.true)

pub returns-else-b-eq-DQUOTE : goal.returns-else-b-eq-DQUOTE
returns-else-b-eq-DQUOTE c = simp (ne_eqb _ _ c.if-b-eq-DQUOTE.false)
