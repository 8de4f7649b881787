-- Whether a schedule of a unit lacks an hour, by the steps of each row. Assumes nothing.
use Prim.Native.Nat.{ℕ}
use Rattle.cells.specs.promises.Views.{schedule_at}
use Rattle.links.specs.promises.Links.{Along}
use Rattle.schedules.specs.promises.Steps.{stops}
use Rattle.tables.specs.promises.FlatRows.{schedule_rows}
use Rattle.schedules.proofs.runs.lacks.Given as goal

abbrev pub invariant-loop-left : goal.invariant-loop-left
invariant-loop-left l = Along (λ (j : ℕ). stops l.unit l.hour (schedule_rows l.n l.cells) (schedule_at l.cells j)) l.n l.links l.left

abbrev pub decreases-loop-left : goal.decreases-loop-left
decreases-loop-left l = l.left
