-- The file's end. Assumes nothing.
use borrow.Author.Tests.{eq-eqb, ne_eqb}
use Rattle.csv_text.specs.promises.Scan.{tally_of, finished}
use Rattle.csv_text.proofs.scanning.finished.Goals as goal

pub returns-then-t-eq0 : goal.returns-then-t-eq0
unfolding finished tally_of
returns-then-t-eq0 c = simp (eq-eqb _ _ c.if-t-eq0.true) c.verdict.ensures

pub returns : goal.returns
unfolding finished tally_of
returns c = simp (ne_eqb _ _ c.if-t-eq0.false, ← c.over.ensures) c.verdict-2.ensures
