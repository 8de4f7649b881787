-- Schedule rows that are priced in place. Assumes nothing.
use Rattle.std.specs.Prelude.{ℕ, ◌+◌, ◌*◌, ◌<◌, ◌≡◌, cond, List, leb, length, set}
use Rattle.tables.specs.promises.FlatRows.{point_rows}
use Rattle.cells.specs.promises.Views.{schedule_at, schedule_width, point_at}
use Rattle.curves.specs.Curves.{priced_row}

-- a run where point i has come to row k
unfoldable pub price_stored : List ℕ → ℕ → ℕ → List ℕ → List ℕ
price_stored points i k cells =
    cond (leb (schedule_at cells k).ecomin (point_at points i).mw) (set cells (k * schedule_width + 5) (point_at points i).price) cells

-- each of n rows at the price of its curve
pub record RowsPriced (m : ℕ) (points : List ℕ) (n : ℕ) (old new : List ℕ) : Type 0 where
  pub same_length : length new ≡ length old
  pub each : (j : ℕ) → j < n → schedule_at new j ≡ priced_row (point_rows m points) (schedule_at old j)
