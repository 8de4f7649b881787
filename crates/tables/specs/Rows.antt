-- The rows of the files by the names of their columns, as cells hold them: dfax in excess of 10000, so that -10000
-- is 0, and a kind as its letter. Assumes nothing.
use Rattle.std.specs.Prelude.{ℕ, ◌+◌, ◌-◌, cond, List, eqb, get_or}
use Rattle.tables.specs.Table.{M, C}
use Rattle.tables.specs.declared.constraint.ConstraintRow.{ConstraintRow}
use Rattle.tables.specs.declared.files.Kind.{Kind}
use Rattle.tables.specs.declared.files.Kind.TheVariants.{M as KindM, C as KindC}

pub record SupplyRow : Type 0 where
  pub unit : ℕ
  pub supplier : ℕ
  pub mw : ℕ
  pub cost : ℕ
  pub dfax : ℕ

pub record ScheduleRow : Type 0 where
  pub unit : ℕ
  pub schedule : ℕ
  pub kind : ℕ
  pub hour : ℕ
  pub ecomin : ℕ
  pub price : ℕ
  pub noload : ℕ
  pub startup : ℕ
  pub minrun : ℕ

-- a point of an offer curve, which a schedule has for an hour
pub record PointRow : Type 0 where
  pub unit : ℕ
  pub schedule : ℕ
  pub hour : ℕ
  pub mw : ℕ
  pub price : ℕ

-- a supplier with the parent that it is given
pub record ParentRow : Type 0 where
  pub supplier : ℕ
  pub parent : ℕ

abbrev pub constraint_row : List ℕ → ConstraintRow
constraint_row cs = record { hour = get_or cs 0 0; relief = get_or cs 1 0; cutoff = get_or cs 2 0 }

abbrev pub supply_row : List ℕ → SupplyRow
supply_row cs =
    record { unit = get_or cs 0 0; supplier = get_or cs 1 0; mw = get_or cs 2 0; cost = get_or cs 3 0; dfax = get_or cs 4 0 }

abbrev pub schedule_row : List ℕ → ScheduleRow
schedule_row cs =
    record {
      unit = get_or cs 0 0;
      schedule = get_or cs 1 0;
      kind = get_or cs 2 0;
      hour = get_or cs 3 0;
      ecomin = get_or cs 4 0;
      price = get_or cs 5 0;
      noload = get_or cs 6 0;
      startup = get_or cs 7 0;
      minrun = get_or cs 8 0;
    }

abbrev pub point_row : List ℕ → PointRow
point_row cs =
    record { unit = get_or cs 0 0; schedule = get_or cs 1 0; hour = get_or cs 2 0; mw = get_or cs 3 0; price = get_or cs 4 0 }

abbrev pub parent_row : List ℕ → ParentRow
parent_row cs = record { supplier = get_or cs 0 0; parent = get_or cs 1 0 }

-- |dfax| of a cell
unfoldable pub magnitude : ℕ → ℕ
magnitude d = (d - 10000) + (10000 - d)

-- the kind of a cell, and the cell of a kind
unfoldable pub kind_of : ℕ → Kind
kind_of b = cond (eqb b M) KindM KindC

abbrev pub letter_of : Kind → ℕ
letter_of KindM = M
letter_of KindC = C
