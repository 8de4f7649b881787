-- A byte of a header in quotes. Assumes nothing.
use Rattle.std.proofs.Common.{eq-eqb, ne_eqb}
use Rattle.onepass.specs.promises.Walk.{quoted_byte}
use Rattle.onepass.proofs.headers.quoted_byte_end.Goals as goal

pub returns-then-b-eq-COMMA : goal.returns-then-b-eq-COMMA
unfolding quoted_byte
returns-then-b-eq-COMMA c = rw (eq-eqb _ _ c.if-b-eq-COMMA.true) c.text_end.ensures

pub returns-then-b-eq-CR : goal.returns-then-b-eq-CR
unfolding quoted_byte
returns-then-b-eq-CR c = rw (ne_eqb _ _ c.if-b-eq-COMMA.false, eq-eqb _ _ c.if-b-eq-CR.true) c.text_end-then-b-eq-CR.ensures

pub returns : goal.returns
unfolding quoted_byte
returns c = rw (ne_eqb _ _ c.if-b-eq-COMMA.false, ne_eqb _ _ c.if-b-eq-CR.false) c.text_end-2.ensures
