-- Document 01, "Market and verdict", points 2 and 3: eligible supply against the need, and the clearing row, which is said
-- twice: `Clears` is the paper's sentence, and `clearing` finds the first such row. That they agree, that such a row exists
-- exactly when eligible supply is not short, and that all such rows have one cost is shown in `proofs/ClearingLaws`.
-- Assumes nothing.
use Rattle.std.specs.Prelude.{ℕ, ◌*◌, ◌≤◌, ◌<◌, Bool, ◌&&◌, leb, ltb, length, unwrap_or}
use mathlib.Core.List.{List, Memᴰ}
use Rattle.base.specs.Search.{first}
use Rattle.tables.specs.Rows.{SupplyRow}
use Rattle.offers.specs.Supply.{abs_dfax, eligible, total_supply, at_most, below, row_at}

-- "Eligible supply is the effective supply of the eligible rows, added up."
unfoldable pub eligible_supply : ℕ → List SupplyRow → ℕ
eligible_supply cutoff rows = total_supply (eligible cutoff) rows

-- "The need is relief × 10000"
unfoldable pub need_of : ℕ → ℕ
need_of relief = relief * 10000

-- "If all eligible supply is below it, the test cannot be performed"
unfoldable pub short : ℕ → ℕ → List SupplyRow → Bool
short cutoff need rows = ltb (eligible_supply cutoff rows) need

-- "eligible rows at or below it"
unfoldable pub eligible_up_to : ℕ → SupplyRow → SupplyRow → Bool
eligible_up_to cutoff q r = eligible cutoff r && at_most q r

-- "rows strictly below it"
unfoldable pub eligible_below : ℕ → SupplyRow → SupplyRow → Bool
eligible_below cutoff q r = eligible cutoff r && below q r

-- "the clearing cost is that of an eligible row such that eligible rows at or below it supply at least the need, and rows
-- strictly below it supply less"
pub record Clears (cutoff need : ℕ) (rows : List SupplyRow) (q : SupplyRow) : Type 0 where
  pub a-row : Memᴰ q rows
  pub is-eligible : cutoff ≤ abs_dfax q
  pub enough : need ≤ total_supply (eligible_up_to cutoff q) rows
  pub less : total_supply (eligible_below cutoff q) rows < need

-- the same of one of the rows, as a test
unfoldable pub clears : ℕ → ℕ → List SupplyRow → SupplyRow → Bool
clears cutoff need rows q =
    eligible cutoff q
    && (leb need (total_supply (eligible_up_to cutoff q) rows) && ltb (total_supply (eligible_below cutoff q) rows) need)

-- the place of the first row in file order that clears, or the number of rows where none does
unfoldable pub clearing : ℕ → ℕ → List SupplyRow → ℕ
clearing cutoff need rows = unwrap_or (first (clears cutoff need rows) 0 rows) (length rows)

unfoldable pub clearing_row : ℕ → ℕ → List SupplyRow → SupplyRow
clearing_row cutoff need rows = row_at rows (clearing cutoff need rows)
