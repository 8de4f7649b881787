-- Whether a schedule has a row for an hour, along the rows of its key. Assumes nothing.
use Prim.Native.Nat.{ℕ}
use Rattle.cells.specs.promises.Views.{schedule_at}
use Rattle.links.specs.promises.Links.{Along}
use Rattle.schedules.specs.promises.Steps.{is_at}
use Rattle.schedules.proofs.runs.has_hour.Given as goal

abbrev pub invariant-loop-left : goal.invariant-loop-left
invariant-loop-left l = Along (λ (j : ℕ). is_at (schedule_at l.cells l.k) l.hour (schedule_at l.cells j)) l.n l.by_schedule l.left

abbrev pub decreases-loop-left : goal.decreases-loop-left
decreases-loop-left l = l.left
