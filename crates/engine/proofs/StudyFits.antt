-- What committing the units of rows that were decided asks, from what is known of the rows. Assumes nothing.
use Prim.Native.Nat.{ℕ, ◌≤◌}
use mathlib.Core.Path.{◌≡◌, ap}
use mathlib.Core.List.{List, map}
use native.Mathlib.Omega.{arith}
use lib.ListN.{length, length-map}
use Rattle.cells.specs.promises.Views.{answer_rows}
use Rattle.cells.proofs.RowViews.{answer-length}
use Rattle.outcome.specs.Day.{RunningUnit, most_running}
use Rattle.outcome.specs.Study.{chosen}
use Rattle.outcome.proofs.DayAfter.{chosen-units}
use Rattle.running.specs.promises.Committing.{Fits}
use Rattle.running.specs.View.{units_of}
use Rattle.running.specs.declared.units.Units.{Units}
use Rattle.running.proofs.ViewLaws.{counted}
use Rattle.engine.specs.promises.Deciding.{RowsReady}

module _ (running : List RunningUnit) (k : ℕ) (cells : List ℕ) (us : Units) (ready : RowsReady running k cells) (chose : units_of us ≡ map chosen (answer_rows k cells)) where
  pub rows_fit : Fits (units_of us) running
  rows_fit =
      rw chose
      (record {
        rising = rw (chosen-units (answer_rows k cells)) ready.rising;
        few = rw (chosen-units (answer_rows k cells)) ready.fit;
      })

  pub chosen-few : us.count ≤ most_running
  chosen-few =
      omega (arith, counted us, ap length chose, length-map (answer_rows k cells) chosen, answer-length k cells, ready.few)
