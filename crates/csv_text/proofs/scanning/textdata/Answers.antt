-- The tests of TEXTDATA, its two gaps taken out of one range. Assumes nothing.
use borrow.Author.Tests.{lt-leb}
use native.Mathlib.Omega.{arith}
use Rattle.csv_text.proofs.Bytes.{textdata-from-space}
use Rattle.csv_text.proofs.scanning.textdata.Goals as goal

pub returns-then-b-lt32 : goal.returns-then-b-lt32
returns-then-b-lt32 c = simp (lt-leb 0x20 c.args.b (omega arith), lt-leb 0x23 c.args.b (omega arith), lt-leb 0x2D c.args.b (omega arith))

pub returns-then-b-eq-DQUOTE : goal.returns-then-b-eq-DQUOTE
returns-then-b-eq-DQUOTE c = rw c.if-b-eq-DQUOTE.true

pub returns-then-b-eq-COMMA : goal.returns-then-b-eq-COMMA
returns-then-b-eq-COMMA c = rw c.if-b-eq-COMMA.true

pub returns : goal.returns
returns c = textdata-from-space _ (omega arith) c.if-b-eq-DQUOTE.false c.if-b-eq-COMMA.false
