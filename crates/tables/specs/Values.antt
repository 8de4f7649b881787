-- Document 01, "Files": what a field's value is in its column, as the number that a cell holds. Assumes nothing.
use Rattle.std.specs.Prelude.{ℕ, ◌+◌, ◌-◌, Bool, true, false, cond, ◌&&◌, List, [], ◌∷◌, eqb, leb, None, Option, Some, option_map, unwrap_or}
use Rattle.base.specs.Text.{same}
use Rattle.numeral.specs.Numeral.{number, within}
use Rattle.tables.specs.Table.{Column}
use Rattle.tables.specs.declared.columns.Form.{Form}
use Rattle.tables.specs.declared.columns.Form.TheVariants.{Numeral as numeral, Signed as signed, Letter as letter}

-- `-`
abbrev pub MINUS : ℕ
MINUS = 0x2D

-- whether a number is within the range of a column of numerals
unfoldable pub in_column : Column → ℕ → Bool
in_column c x = leb c.minimum x && leb x c.maximum

-- "dfax may carry `-` before a nonzero numeral": the number in excess of the minimum's size
unfoldable pub excess : ℕ → ℕ → List ℕ → Option ℕ
excess minimum maximum [] = None
excess minimum maximum (b ∷ s) =
    cond (eqb b MINUS)
    (option_map (λ (n : ℕ). minimum - n) (within 1 minimum (number s)))
    (option_map (λ (n : ℕ). minimum + n) (within 0 maximum (number (b ∷ s))))

-- one of two letters, as its byte
unfoldable pub one_of : ℕ → ℕ → List ℕ → Option ℕ
one_of a b v = cond (same v (a ∷ [])) (Some a) (cond (same v (b ∷ [])) (Some b) None)

-- the cell of a field's value, none where it is ill-formed or out of range
unfoldable pub in_form : Form → ℕ → ℕ → List ℕ → Option ℕ
in_form numeral minimum maximum v = within minimum maximum (number v)
in_form signed minimum maximum v = excess minimum maximum v
in_form letter minimum maximum v = one_of minimum maximum v

unfoldable pub value : Column → List ℕ → Option ℕ
value c v = in_form c.form c.minimum c.maximum v

unfoldable pub is_some : Option ℕ → Bool
is_some None = false
is_some (Some n) = true

-- the cells of a row, with 0 for an ill-formed field
unfoldable pub cells : List Column → List (List ℕ) → List ℕ
cells [] vs = []
cells (c ∷ cs) [] = []
cells (c ∷ cs) (v ∷ vs) = unwrap_or (value c v) 0 ∷ cells cs vs

-- whether no field of a row is ill-formed or out of range
unfoldable pub well_formed : List Column → List (List ℕ) → Bool
well_formed [] vs = true
well_formed (c ∷ cs) [] = true
well_formed (c ∷ cs) (v ∷ vs) = is_some (value c v) && well_formed cs vs
