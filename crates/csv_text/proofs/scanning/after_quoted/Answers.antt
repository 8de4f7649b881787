-- A byte in an escaped field. Assumes nothing.
use borrow.Author.Tests.{eq-eqb, ne_eqb}
use Rattle.csv_text.specs.Records.{next}
use Rattle.csv_text.proofs.scanning.after_quoted.Goals as goal

pub returns-then-b-eq-DQUOTE : goal.returns-then-b-eq-DQUOTE
unfolding next
returns-then-b-eq-DQUOTE c = simp (eq-eqb _ _ c.if-b-eq-DQUOTE.true)

pub returns-then-textdata : goal.returns-then-textdata
unfolding next
returns-then-textdata c = simp (ne_eqb _ _ c.if-b-eq-DQUOTE.false, ← c.textdata.ensures, c.if-textdata.true)

pub returns-then-b-eq-COMMA : goal.returns-then-b-eq-COMMA
unfolding next
returns-then-b-eq-COMMA c = rw c.if-b-eq-COMMA.true

pub returns-then-b-eq-CR : goal.returns-then-b-eq-CR
unfolding next
returns-then-b-eq-CR c = rw c.if-b-eq-CR.true

pub returns-then-b-eq-LF : goal.returns-then-b-eq-LF
unfolding next
returns-then-b-eq-LF c = rw c.if-b-eq-LF.true

pub returns : goal.returns
unfolding next
returns c =
    simp (
      ne_eqb _ _ c.if-b-eq-DQUOTE.false,
      ← c.textdata.ensures,
      c.if-textdata.false,
      ne_eqb _ _ c.if-b-eq-COMMA.false,
      ne_eqb _ _ c.if-b-eq-CR.false,
      ne_eqb _ _ c.if-b-eq-LF.false,
    )
