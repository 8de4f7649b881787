-- The answer of a tally. Assumes nothing.
use Rattle.csv_text.specs.promises.Scan.{tally_of, scan_answer}
use Rattle.csv_text.proofs.scanning.verdict.Goals as goal

pub returns-then-may_end : goal.returns-then-may_end
unfolding scan_answer tally_of
returns-then-may_end c = simp (← c.may_end.ensures, c.if-may_end.true)

pub returns : goal.returns
unfolding scan_answer tally_of
returns c = simp (← c.may_end.ensures, c.if-may_end.false)
