-- Inserting: the place, and then either nothing or the number put there. Assumes nothing.
use Rattle.numbers.proofs.inserting.insert.Goals.{then-at-count+else-out-at, else-at-count}
use native.Mathlib.Omega.{arith}
use Rattle.numbers.proofs.InsertLaws.{insert-there, insert-new}
use Rattle.numbers.proofs.inserting.insert.Goals as goal

pub returns-then-out-at : goal.returns-then-out-at
returns-then-out-at c = insert-there _ _ _ _ (omega arith) c.place-at.ensures (omega arith) (omega arith)

pub returns : goal.returns
returns c = insert-new _ _ _ _ (omega arith) c.place-at.ensures _
    (λ h. elim c.if-at-count.branch [ then-at-count+else-out-at w ↦ w.if-out-at.false | else-at-count w ↦ absurd (omega arith) ])
    c.put_at.ensures
