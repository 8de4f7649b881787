-- Document 01, "Files": what supply rows must be to each other: "at most 64 units, 32 suppliers", and "Rows of one unit
-- share supplier and dfax." Assumes nothing.
use Rattle.std.specs.Prelude.{ℕ, suc, Bool, cond, not, ◌&&◌, ◌||◌, List, [], ◌∷◌, eqb, ltb, length, None, Option, Some}
use Rattle.base.specs.Rising.{inserted}
use Rattle.base.specs.Search.{first_at_odds}
use Rattle.numbers.specs.Numbers.{numbers_of}
use Rattle.tables.specs.Rows.{SupplyRow}

abbrev pub most_units : ℕ
most_units = 64

abbrev pub most_suppliers : ℕ
most_suppliers = 32

-- the units of some rows, by rising number
unfoldable pub units : List SupplyRow → List ℕ
units rs = numbers_of (λ (r : SupplyRow). r.unit) rs

-- the suppliers likewise
unfoldable pub suppliers : List SupplyRow → List ℕ
suppliers rs = numbers_of (λ (r : SupplyRow). r.supplier) rs

-- 5: "a 65th unit or 33rd supplier in supply (its record)". Of the rows before, us are the units and ss the suppliers
unfoldable pub over_limit_from : List ℕ → List ℕ → ℕ → List SupplyRow → Option ℕ
over_limit_from us ss k [] = None
over_limit_from us ss k (r ∷ rs) =
    let more = over_limit_from (inserted r.unit us) (inserted r.supplier ss) (suc k) rs in
    cond (ltb most_units (length (inserted r.unit us)) || ltb most_suppliers (length (inserted r.supplier ss))) (Some k) more

unfoldable pub over_limit : List SupplyRow → Option ℕ
over_limit rs = over_limit_from [] [] 1 rs

-- 6: "Rows of one unit share supplier and dfax."
unfoldable pub supply_odds : SupplyRow → SupplyRow → Bool
supply_odds r e = eqb r.unit e.unit && not (eqb r.supplier e.supplier && eqb r.dfax e.dfax)

-- "first record at odds with an earlier one"
unfoldable pub supply_at_odds : List SupplyRow → Option ℕ
supply_at_odds rs = first_at_odds supply_odds [] 1 rs
