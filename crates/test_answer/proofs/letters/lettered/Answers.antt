-- Rows from the last to the first. Assumes nothing.
use native.Mathlib.Omega.{arith}
use Rattle.test_answer.proofs.LetterLaws.{all-from-end, all_from}
use Rattle.test_answer.proofs.letters.lettered.Goals as goal

pub loop-i-init : goal.loop-i-init
loop-i-init c = all-from-end _ _

pub loop-i-preserved : goal.loop-i-preserved
loop-i-preserved c =
    let letters = c.row_lettered.ensures c.if-not-row_lettered.false in
    all_from _ _ c.loop-i.i (omega arith) (omega arith) letters c.loop-i.invariant
