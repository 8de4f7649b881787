-- What the functions on supply rows promise, of rows that stand in a flat run of cells. Assumes nothing.
use Rattle.std.specs.Prelude.{ℕ, zero, suc, ◌+◌, ◌*◌, ◌≤◌, ◌<◌, ◌≡◌, Bool, false, ◌||◌, List, [], ◌∷◌, ltb, length, get_or, take, None}
use Rattle.base.specs.Search.{any}
use Rattle.tables.specs.Rows.{SupplyRow}
use Rattle.cells.specs.promises.Views.{supply_width, supply_at}
use Rattle.links.specs.promises.Links.{by_unit}
use Rattle.supply.specs.Supply.{units, suppliers, most_units, most_suppliers, over_limit, supply_odds}
use Rattle.supply.specs.declared.rows.Counts.{Counts}

-- the first `count` numbers of a run are the wanted ones, and no more than the most
pub record Listed (most : ℕ) (wanted : List ℕ) (count : ℕ) (run : List ℕ) : Type 0 where
  pub few : count ≤ most
  pub counted : count ≡ length wanted
  pub listed : take count run ≡ wanted

-- the record that crowds; and where there is none, the units and the suppliers of all rows
pub record Counted (rows : List SupplyRow) (us ss : List ℕ) (r : Counts) : Type 0 where
  pub place : r.place ≡ over_limit rows
  pub all-units : over_limit rows ≡ None → Listed most_units (units rows) r.units us
  pub all-suppliers : over_limit rows ≡ None → Listed most_suppliers (suppliers rows) r.suppliers ss

-- whether so many units and suppliers are too many
unfoldable pub too_many : ℕ → ℕ → Bool
too_many us ss = ltb most_units us || ltb most_suppliers ss

-- the rows before a place, the last of them first
unfoldable pub supply_before : List ℕ → ℕ → List SupplyRow
supply_before cells zero = []
supply_before cells (suc k) = supply_at cells k ∷ supply_before cells k

-- none of the rows before a place is at odds with an earlier one
abbrev pub AgreeBefore : List ℕ → ℕ → Type 0
AgreeBefore cells k = (j : ℕ) → j < k → any (supply_odds (supply_at cells j)) (supply_before cells j) ≡ false

-- the key of the row at a place: rows of one unit share it
abbrev pub supply_key : List ℕ → ℕ → ℕ
supply_key cells k = by_unit (get_or cells (k * supply_width + 0) 0)
