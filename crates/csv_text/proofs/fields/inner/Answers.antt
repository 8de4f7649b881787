-- A field's text without its quotes. Assumes nothing.
use Rattle.csv_text.proofs.Parts.{inner-none, inner-plain, inner-lone, inner-quoted}
use Rattle.csv_text.proofs.fields.inner.Goals as goal

pub returns-then-t-eq0 : goal.returns-then-t-eq0
returns-then-t-eq0 c = inner-none _ c.if-t-eq0.true

pub returns-then-t-eq1 : goal.returns-then-t-eq1
returns-then-t-eq1 c = inner-lone _ c.if-t-eq1.true c.if-t-eq-DQUOTE.true

pub returns-then-t-eq-DQUOTE : goal.returns-then-t-eq-DQUOTE
returns-then-t-eq-DQUOTE c = inner-quoted _ c.if-t-eq-DQUOTE.true

pub returns : goal.returns
returns c = inner-plain _ c.if-t-eq-DQUOTE.false
