-- What holds of the cells that reading permits: of any column, by the table; and of the rows of each file by name, which
-- follows from the table (`proofs/Permitted`) and which code that computes with rows asks for. Assumes nothing.
use Rattle.std.specs.Prelude.{ℕ, ◌+◌, ◌≤◌, ◌≡◌, ◌⊎◌, List, [], ◌∷◌}
use Rattle.tables.specs.Rows.{SupplyRow, ScheduleRow, PointRow, ParentRow}
use Rattle.tables.specs.declared.constraint.ConstraintRow.{ConstraintRow}
use Rattle.tables.specs.Table.{Column, M, C, latest_hour, highest_supplier, highest_ecomin, highest_cost}
use Rattle.tables.specs.declared.columns.Form.{Form}
use Rattle.tables.specs.declared.columns.Form.TheVariants.{Numeral as numeral, Signed as signed, Letter as letter}

-- a number within its column's range
abbrev pub Permits : Form → ℕ → ℕ → ℕ → Type 0
Permits numeral minimum maximum x = (minimum ≤ x) × (x ≤ maximum)
Permits signed minimum maximum x = x ≤ minimum + maximum
Permits letter minimum maximum x = (x ≡ minimum) ⊎ (x ≡ maximum)

pub data PermittedCells : List Column → List ℕ → Type 0 where
  none : PermittedCells [] []
  more :
      {c : Column} {cs : List Column} {x : ℕ} {xs : List ℕ} →
      Permits c.form c.minimum c.maximum x → PermittedCells cs xs → PermittedCells (c ∷ cs) (x ∷ xs)

pub record PermittedConstraint (r : ConstraintRow) : Type 0 where
  pub hour : r.hour ≤ latest_hour
  pub some-relief : 1 ≤ r.relief
  pub relief : r.relief ≤ 1000000
  pub some-cutoff : 1 ≤ r.cutoff
  pub cutoff : r.cutoff ≤ 10000

pub record PermittedSupply (r : SupplyRow) : Type 0 where
  pub some-unit : 1 ≤ r.unit
  pub unit : r.unit ≤ 9999
  pub some-supplier : 1 ≤ r.supplier
  pub supplier : r.supplier ≤ highest_supplier
  pub some-mw : 1 ≤ r.mw
  pub mw : r.mw ≤ 100000
  pub cost : r.cost ≤ highest_cost
  pub dfax : r.dfax ≤ 20000

pub record PermittedSchedule (r : ScheduleRow) : Type 0 where
  pub some-unit : 1 ≤ r.unit
  pub unit : r.unit ≤ 9999
  pub some-schedule : 1 ≤ r.schedule
  pub schedule : r.schedule ≤ 99
  pub kind : (r.kind ≡ C) ⊎ (r.kind ≡ M)
  pub hour : r.hour ≤ latest_hour
  pub ecomin : r.ecomin ≤ highest_ecomin
  pub price : r.price ≤ highest_cost
  pub noload : r.noload ≤ 100000000
  pub startup : r.startup ≤ 100000000
  pub some-minrun : 1 ≤ r.minrun
  pub minrun : r.minrun ≤ 24

pub record PermittedPoint (r : PointRow) : Type 0 where
  pub some-unit : 1 ≤ r.unit
  pub unit : r.unit ≤ 9999
  pub some-schedule : 1 ≤ r.schedule
  pub schedule : r.schedule ≤ 99
  pub hour : r.hour ≤ latest_hour
  pub mw : r.mw ≤ highest_ecomin
  pub price : r.price ≤ highest_cost

pub record PermittedParent (r : ParentRow) : Type 0 where
  pub some-supplier : 1 ≤ r.supplier
  pub supplier : r.supplier ≤ highest_supplier
  pub some-parent : 1 ≤ r.parent
  pub parent : r.parent ≤ highest_supplier
