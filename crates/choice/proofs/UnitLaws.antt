-- Laws of the row at a place of a study's schedule rows. Assumes nothing.
use Prim.Native.Nat.{ℕ, ◌<◌}
use mathlib.Core.Path.{refl}
use mathlib.Core.List.Memᴰ.{head as first}
use mathlib.Core.List.{List, Memᴰ as Among}
use native.Mathlib.Omega.{arith}
use Rattle.base.proofs.Lists.{among-drop}
use Rattle.cells.specs.promises.Views.{schedule_at}
use Rattle.cells.proofs.RowViews.{schedule-next}
use Rattle.choice.specs.promises.Ranges.{ScheduleCells, ScheduleRowAt}
use Rattle.tables.specs.promises.FlatRows.{schedule_rows}

module _ (n : ℕ) (cells : List ℕ) where
  row-among : (i : ℕ) → i < n → Among (schedule_at cells i) (schedule_rows n cells)
  row-among i h = among-drop i (schedule_rows n cells) (rw (schedule-next n cells i h) (first refl))

  pub row_here : ScheduleCells n cells → (i : ℕ) → i < n → ScheduleRowAt cells i
  row_here u i h = record { room = omega (arith, u.room); ranged = u.ranged (schedule_at cells i) (row-among i h) }
