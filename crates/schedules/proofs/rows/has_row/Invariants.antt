-- Whether a unit has a row, along the rows of its key. Assumes nothing.
use Prim.Native.Nat.{ℕ}
use Rattle.cells.specs.promises.Views.{schedule_at}
use Rattle.schedules.specs.promises.Answers.{is_of}
use Rattle.links.specs.promises.Links.{Along}
use Rattle.schedules.proofs.rows.has_row.Given as goal

abbrev pub invariant-loop-left : goal.invariant-loop-left
invariant-loop-left l = Along (λ (j : ℕ). is_of l.unit (schedule_at l.cells j)) l.n l.links l.left

abbrev pub decreases-loop-left : goal.decreases-loop-left
decreases-loop-left l = l.left
