-- The answer of decided units: 10, then written and committed. Assumes nothing.
use native.Mathlib.Omega.{arith}
use Rattle.engine.specs.View.{view_of}
use Rattle.engine.proofs.StudyFits.{rows_fit, chosen-few}
use Rattle.engine.proofs.StudyLaws.{answers-short-buffer, answers-written}
use Rattle.engine.proofs.day.Day.answer_rows.Goals as goal

pub returns-then-answer-length : goal.returns-then-answer-length
returns-then-answer-length c = answers-short-buffer _ _ _ _ _ c.length.ensures (omega arith) _ (rw c.bare.ensures at c.refuse_study.ensures)

pub merged-requires : goal.merged-requires
merged-requires c =
    let pre = c.requires in
    record { self_value = pre.units_value; count_le_most_running = chosen-few _ _ _ _ pre.rows_ready c.chosen.ensures; fits = rows_fit _ _ _ _ pre.rows_ready c.chosen.ensures }

pub returns : goal.returns
unfolding view_of
returns c = answers-written _ _ _ _ _ c.length.ensures (omega arith) _ _ _ c.write-written.ensures (rw c.chosen.ensures at c.merged.ensures)
