-- Document 01, "Market and verdict", point 4: "The relevant market is the eligible rows whose effective cost is at most 150%
-- of the clearing cost." The costs are compared exactly, and at 150% a row is relevant. Assumes nothing.
use Rattle.std.specs.Prelude.{ℕ, ◌*◌, Bool, ◌&&◌, leb}
use Rattle.tables.specs.Rows.{SupplyRow}
use Rattle.offers.specs.Supply.{eligible, cost_beside}

-- whether the row r is relevant where the row q clears
unfoldable pub relevant : ℕ → SupplyRow → SupplyRow → Bool
relevant cutoff q r = eligible cutoff r && leb (2 * cost_beside q r) (3 * cost_beside r q)
