-- A kind by its letter. Assumes nothing.
use borrow.Author.Tests.{eq-eqb, ne_eqb}
use Rattle.tables.specs.Rows.{kind_of}
use Rattle.tables.proofs.kinds.kind_of.Goals as goal

pub returns-then-letter-eq-M : goal.returns-then-letter-eq-M
unfolding kind_of
returns-then-letter-eq-M c = rw (eq-eqb _ _ c.if-letter-eq-M.true)

pub returns-else-letter-eq-M : goal.returns-else-letter-eq-M
unfolding kind_of
returns-else-letter-eq-M c = rw (ne_eqb _ _ c.if-letter-eq-M.false)
