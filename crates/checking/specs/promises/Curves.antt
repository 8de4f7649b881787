-- What checking curves promises: the first refusal, or schedule rows at the prices of their curves, in place. Assumes nothing.
use Rattle.std.specs.Prelude.{ℕ, ◌≡◌, List, [], ◌∷◌, length, None, Option, Result, option_map}
use Rattle.base.specs.Search.{first_of}
use Rattle.tables.specs.Refusals.{refused}
use Rattle.tables.specs.Rows.{ScheduleRow, PointRow}
use Rattle.tables.specs.declared.files.File.TheVariants.{Curves}
use Rattle.tables.specs.declared.files.Refusal.{Refusal}
use Rattle.tables.specs.promises.FlatRows.{schedule_rows, point_rows}
use Rattle.curves.specs.Curves.{disordered, ends_low, priced}
use Rattle.curves.specs.promises.Pricing.{RowsPriced}
use Rattle.checking.specs.promises.Alone.{rows_unless}
use Rattle.checking.specs.promises.Rules.{held_refusals, priced_refusals}
use Rattle.checking.specs.Files.{schedules_of, curves_of, point_refusals, curves_refusals}

-- the rows of schedules at the prices of curves
abbrev pub priced_rows : List ℕ → List ℕ → List ScheduleRow
priced_rows s k = priced (curves_of k) (schedules_of s)

-- n schedule rows in cells, priced by some points unless there is a refusal; so many rows or points are answered
pub record Prices (o : Option Refusal) (vs : List PointRow) (n : ℕ) (old new : List ℕ) (count : ℕ) (r : Result ℕ Refusal) : Type 0 where
  pub answers : r ≡ rows_unless o count
  pub by-curves : o ≡ None → schedule_rows n new ≡ priced vs (schedule_rows n old)

-- what is left of the refusals of points behind 32, and rows priced by points that these pass
unfoldable pub curve_refusals : List ScheduleRow → List PointRow → List (Option Refusal)
curve_refusals rs vs = option_map (refused 33 Curves) (disordered vs) ∷ option_map (refused 34 Curves) (ends_low rs vs) ∷ []

pub record CurvesHeld (m : ℕ) (points : List ℕ) (n : ℕ) (old new : List ℕ) (r : Result ℕ Refusal) : Type 0 where
  pub answers : r ≡ rows_unless (first_of (curve_refusals (schedule_rows n old) (point_rows m points))) m
  pub by-curves : first_of (curve_refusals (schedule_rows n old) (point_rows m points)) ≡ None → RowsPriced m points n old new

-- by m points that were read, and by a file
abbrev pub RowsPricedBy : ℕ → List ℕ → ℕ → List ℕ → List ℕ → Result ℕ Refusal → Type 0
RowsPricedBy m points n old new =
    Prices (first_of (point_refusals (schedule_rows n old) (point_rows m points))) (point_rows m points) n old new m

abbrev pub CurvesChecked : List ℕ → ℕ → List ℕ → List ℕ → Result ℕ Refusal → Type 0
CurvesChecked k n old new =
    Prices (first_of (curves_refusals (schedule_rows n old) k)) (curves_of k) n old new (length (curves_of k))

-- and held to the market too, from 7 on, or from the curves on
abbrev pub RowsHeld : Option Refusal → ℕ → List ℕ → List ℕ → ℕ → List ℕ → List ℕ → Result ℕ Refusal → Type 0
RowsHeld waiting hour us k n old new =
    Prices (first_of (held_refusals waiting hour us (schedule_rows n old) k)) (curves_of k) n old new n

abbrev pub PricedHeld : Option Refusal → ℕ → List ℕ → List ℕ → ℕ → List ℕ → List ℕ → Result ℕ Refusal → Type 0
PricedHeld waiting hour us k n old new =
    Prices (first_of (priced_refusals waiting hour us (schedule_rows n old) k)) (curves_of k) n old new n
