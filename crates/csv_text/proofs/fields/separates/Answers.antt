-- The separator behind a field. Assumes nothing.
use borrow.Author.Tests.{eq-eqb, ne_eqb}
use Rattle.csv_text.proofs.fields.separates.Goals as goal

pub returns-then-b-eq-COMMA : goal.returns-then-b-eq-COMMA
returns-then-b-eq-COMMA c = simp (c.if-inside.false, eq-eqb _ _ c.if-b-eq-COMMA.true)

pub returns : goal.returns
returns c = simp (c.if-inside.false, ne_eqb _ _ c.if-b-eq-COMMA.false)
