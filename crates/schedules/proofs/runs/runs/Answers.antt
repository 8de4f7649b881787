-- Whether a schedule starts at the study hour and goes on behind a row. Assumes nothing.
use Rattle.std.proofs.lemmas.Bool.{not_from_true, not_from_false}
use Rattle.schedules.proofs.RunLaws.{runs-not, runs-before, runs-over, runs-inside}
use native.Mathlib.Omega.{arith}
use Rattle.schedules.proofs.runs.runs.Goals as goal

pub returns-then-not-has_hour : goal.returns-then-not-has_hour
returns-then-not-has_hour c = runs-not _ _ _ _ _ (omega arith) c.has_hour.ensures (not_from_false _ c.if-not-has_hour.true)

pub returns-then-at-hour : goal.returns-then-at-hour
returns-then-at-hour c = runs-before _ _ _ _ _ (omega arith) c.has_hour.ensures (not_from_true _ c.if-not-has_hour.false) (omega arith)

pub returns-then-run_end-at : goal.returns-then-run_end-at
returns-then-run_end-at c = let end = rw c.cell.ensures at c.run_end.ensures in runs-over _ _ _ _ _ (omega arith) c.has_hour.ensures (not_from_true _ c.if-not-has_hour.false) (omega arith)

pub returns : goal.returns
returns c = let end = rw c.cell.ensures at c.run_end.ensures in runs-inside _ _ _ _ _ (omega arith) c.has_hour.ensures (not_from_true _ c.if-not-has_hour.false) _ _ (omega arith) (omega arith) (omega arith) c.has_hour-2.ensures
