-- Laws of well-formed units, in the order in which the code asks. Assumes nothing.
use Prim.Native.Nat.{ℕ, ◌+◌, ◌≤◌, ◌<◌}
use mathlib.Core.Path.{◌≡◌, refl, ◌∙◌}
use mathlib.Core.Bool.{Bool, true, false}
use mathlib.Core.List.{List, [], ◌∷◌}
use native.Mathlib.Omega.{arith}
use lib.Dec.{leb}
use lib.ListN.{length}
use borrow.Author.Tests.{lt-ltb, le-ltb, leb-true, le-leb, lt-leb}
use Rattle.base.proofs.Tests.{and-fst, and-snd}
use Rattle.tables.specs.declared.files.File.TheVariants.{Schedules}
use Rattle.tables.specs.Values.{in_column}
use Rattle.tables.specs.promises.Columns.{first_column, column_at, all_columns}
use Rattle.tables.specs.Table.{unit_column, schedule_column, constraint_columns, supply_columns, schedules_columns}
use Rattle.outcome.specs.Day.{RunningUnit, most_running, unit_in_range, rising_in_range}
use Rattle.outcome.proofs.DayLaws.{InOrder, in_order}
use Rattle.running.specs.promises.Forming.{units_formed}
use Rattle.running.specs.View.{units_of}
use Rattle.running.specs.declared.units.Units.{Units}
use Rattle.running.proofs.ViewLaws.{counted}

-- a unit's numbers, each by what was answered of its column
module _ (first x : ℕ) (r : Bool) (e : first ≡ first_column Schedules) where
  pub range-unit : r ≡ in_column (column_at (first + 0)) x → r ≡ in_column unit_column x
  unfolding column_at all_columns constraint_columns supply_columns schedules_columns
  range-unit f = f ∙ rw e

  pub range-schedule : r ≡ in_column (column_at (first + 1)) x → r ≡ in_column schedule_column x
  unfolding column_at all_columns constraint_columns supply_columns schedules_columns
  range-schedule f = f ∙ rw e

-- the units one after the other: one that does not rise, one out of range, one more, none
module _ (b : ℕ) (r : RunningUnit) (rs : List RunningUnit) where
  pub falls : r.unit ≤ b → rising_in_range b (r ∷ rs) ≡ false
  unfolding rising_in_range
  falls h = rw (le-ltb b r.unit h)

  pub strays : b < r.unit → unit_in_range r ≡ false → rising_in_range b (r ∷ rs) ≡ false
  unfolding rising_in_range
  strays h e = rw (lt-ltb b r.unit h, e)

  pub rises : b < r.unit → unit_in_range r ≡ true → rising_in_range b (r ∷ rs) ≡ rising_in_range r.unit rs
  unfolding rising_in_range
  rises h e = rw (lt-ltb b r.unit h, e)

pub risen : (b : ℕ) → rising_in_range b [] ≡ true
unfolding rising_in_range
risen b = refl

-- the units: too many, and else one after the other
module _ (rs : List RunningUnit) where
  pub over : most_running < length rs → units_formed rs ≡ false
  unfolding units_formed
  over h = rw (lt-leb (length rs) most_running h)

  pub by_units : length rs ≤ most_running → units_formed rs ≡ rising_in_range 0 rs
  unfolding units_formed
  by_units h = rw (le-leb (length rs) most_running h)

  -- what well-formed units are
  module _ (e : units_formed rs ≡ true) where
    pub few : length rs ≤ most_running
    unfolding units_formed
    few = leb-true (length rs) most_running (and-fst (leb (length rs) most_running) (rising_in_range 0 rs) e)

    pub ordered : InOrder 0 rs
    unfolding units_formed
    ordered = in_order 0 rs (and-snd (leb (length rs) most_running) (rising_in_range 0 rs) e)

-- well-formed units are no more than there are places
pub formed-few : (us : Units) → units_formed (units_of us) ≡ true → us.count ≤ most_running
formed-few us e = omega (arith, few (units_of us) e, counted us)
