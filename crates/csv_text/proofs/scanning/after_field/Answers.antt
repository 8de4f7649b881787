-- A byte behind a field. Assumes nothing.
use borrow.Author.Tests.{eq-eqb, ne_eqb}
use Rattle.csv_text.proofs.scanning.after_field.Goals as goal

pub returns-then-b-eq-COMMA : goal.returns-then-b-eq-COMMA
returns-then-b-eq-COMMA c = simp (eq-eqb _ _ c.if-b-eq-COMMA.true)

pub returns-then-b-eq-CR : goal.returns-then-b-eq-CR
returns-then-b-eq-CR c = simp (ne_eqb _ _ c.if-b-eq-COMMA.false, eq-eqb _ _ c.if-b-eq-CR.true)

pub returns : goal.returns
returns c = simp (ne_eqb _ _ c.if-b-eq-COMMA.false, ne_eqb _ _ c.if-b-eq-CR.false)
