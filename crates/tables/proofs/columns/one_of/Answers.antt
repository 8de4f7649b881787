-- One of two letters. Assumes nothing.
use native.Mathlib.Omega.{arith}
use Rattle.tables.proofs.Forms.{one-of-long, one-of-first, one-of-second, one-of-neither}
use Rattle.tables.proofs.columns.one_of.Goals as goal

pub returns-then-text-ne1 : goal.returns-then-text-ne1
returns-then-text-ne1 c = one-of-long _ _ _ c.if-text-ne1.true

pub returns-then-letter-a : goal.returns-then-letter-a
returns-then-letter-a c = one-of-first _ _ _ c.if-text-ne1.false c.if-letter-a.true

pub returns-then-letter-b : goal.returns-then-letter-b
returns-then-letter-b c = one-of-second _ _ _ c.if-text-ne1.false c.if-letter-a.false (omega arith)

pub returns : goal.returns
returns c = one-of-neither _ _ _ c.if-text-ne1.false c.if-letter-a.false (λ e. omega arith)
