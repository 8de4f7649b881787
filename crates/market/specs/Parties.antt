-- Document 01, "Market and verdict", point 5: the suppliers that are tested, each with its relevant supply. "A supplier with
-- no relevant row is tested with 0 of its own." Assumes nothing.
use Rattle.std.specs.Prelude.{ℕ, Bool, ◌&&◌, List, map, eqb}
use Rattle.numbers.specs.Numbers.{numbers_of}
use Rattle.tables.specs.Rows.{SupplyRow}
use Rattle.offers.specs.Supply.{total_supply}
use Rattle.offers.specs.Relevant.{relevant}

-- the number under which a row's supply counts in the test: its supplier
unfoldable pub party : SupplyRow → ℕ
party r = r.supplier

-- the different parties of the rows, by rising number
unfoldable pub parties : List SupplyRow → List ℕ
parties rows = numbers_of party rows

-- whether the row r counts for the party k, where the row q clears
unfoldable pub relevant_of : ℕ → SupplyRow → ℕ → SupplyRow → Bool
relevant_of cutoff q k r = relevant cutoff q r && eqb (party r) k

-- the relevant supply of a party, and of each of them
unfoldable pub amount_of : ℕ → SupplyRow → List SupplyRow → ℕ → ℕ
amount_of cutoff q rows k = total_supply (relevant_of cutoff q k) rows

unfoldable pub amounts : ℕ → SupplyRow → List SupplyRow → List ℕ
amounts cutoff q rows = map (amount_of cutoff q rows) (parties rows)
