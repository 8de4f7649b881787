-- A byte in a non-escaped field. Assumes nothing.
use Rattle.csv_text.specs.Records.{next}
use Rattle.csv_text.proofs.scanning.after_plain.Goals as goal

pub returns-then-textdata : goal.returns-then-textdata
unfolding next
returns-then-textdata c = simp (← c.textdata.ensures, c.if-textdata.true)

pub returns : goal.returns
unfolding next
returns c = simp (← c.textdata.ensures, c.if-textdata.false) c.after_field.ensures
