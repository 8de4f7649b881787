-- Document 01, "Market and verdict", point 1: "A supply row is eligible when |dfax| is at least cutoff. Its effective supply
-- is mw × |dfax|. Its effective cost is its capped offer divided by |dfax|, compared exactly as a fraction."
-- Assumes nothing.
use Rattle.std.specs.Prelude.{ℕ, ◌+◌, ◌*◌, Bool, cond, List, [], ◌∷◌, leb, ltb, get_or}
use Rattle.tables.specs.Rows.{SupplyRow, magnitude}
use Rattle.offers.specs.Offer.{capped}

unfoldable pub abs_dfax : SupplyRow → ℕ
abs_dfax r = magnitude r.dfax

unfoldable pub eligible : ℕ → SupplyRow → Bool
eligible cutoff r = leb cutoff (abs_dfax r)

unfoldable pub supply : SupplyRow → ℕ
supply r = r.mw * abs_dfax r

-- the effective supply, added up, of the rows that pass a test
unfoldable pub total_supply : (SupplyRow → Bool) → List SupplyRow → ℕ
total_supply p [] = 0
total_supply p (r ∷ rows) = cond (p r) (supply r) 0 + total_supply p rows

-- the cost-based offer of a row
unfoldable pub offer : SupplyRow → ℕ
offer r = capped r.cost

-- The effective costs of two rows are compared over one denominator, |dfax| of the one times |dfax| of the other. This is
-- the numerator of r's cost beside q's.
unfoldable pub cost_beside : SupplyRow → SupplyRow → ℕ
cost_beside q r = offer r * abs_dfax q

-- whether the cost of r is at or below that of q, and whether it is strictly below it
unfoldable pub at_most : SupplyRow → SupplyRow → Bool
at_most q r = leb (cost_beside q r) (cost_beside r q)

unfoldable pub below : SupplyRow → SupplyRow → Bool
below q r = ltb (cost_beside q r) (cost_beside r q)

abbrev pub no_row : SupplyRow
no_row = record { unit = 0; supplier = 0; mw = 0; cost = 0; dfax = 0 }

-- the row at a place, and past the end one that supplies nothing
unfoldable pub row_at : List SupplyRow → ℕ → SupplyRow
row_at rows i = get_or rows i no_row
