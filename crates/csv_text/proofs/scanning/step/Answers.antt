-- One byte more. Assumes nothing.
use native.Mathlib.Omega.{arith}
use Rattle.base.proofs.Searches.{one-le}
use Rattle.csv_text.specs.promises.Scan.{tally_of, state, separates, step, inside_field}
use Rattle.csv_text.proofs.scanning.step.Goals as goal

pub returns-then-at_end : goal.returns-then-at_end
unfolding step tally_of
returns-then-at_end c = simp (← c.at_end.ensures, c.if-at_end.true, ← c.next-after.ensures) c.over.ensures

pub overflow_add-result : goal.overflow_add-result
overflow_add-result c = omega (arith, one-le (separates (state c.args.t.place) c.args.b))

pub returns : goal.returns
unfolding step tally_of inside_field
returns c = simp (← c.at_end.ensures, c.if-at_end.false, ← c.next-after.ensures, c.max.ensures, c.separator.ensures)
