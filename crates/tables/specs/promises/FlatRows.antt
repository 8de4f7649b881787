-- Rows out of a flat run of cells, one row behind the other. Assumes nothing.
use Rattle.std.specs.Prelude.{ℕ, zero, suc, List, [], ◌∷◌, map, take, drop}
use Rattle.tables.specs.Rows.{SupplyRow, ScheduleRow, PointRow, ParentRow, supply_row, schedule_row, point_row, parent_row}

-- the first n rows of w cells each
unfoldable pub rows_of : ℕ → ℕ → List ℕ → List (List ℕ)
rows_of w zero cs = []
rows_of w (suc n) cs = take w cs ∷ rows_of w n (drop w cs)

unfoldable pub supply_rows : ℕ → List ℕ → List SupplyRow
supply_rows n cs = map supply_row (rows_of 5 n cs)

unfoldable pub schedule_rows : ℕ → List ℕ → List ScheduleRow
schedule_rows n cs = map schedule_row (rows_of 9 n cs)

unfoldable pub point_rows : ℕ → List ℕ → List PointRow
point_rows n cs = map point_row (rows_of 5 n cs)

unfoldable pub parent_rows : ℕ → List ℕ → List ParentRow
parent_rows n cs = map parent_row (rows_of 2 n cs)
