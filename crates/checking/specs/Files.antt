-- The files of a study, their rows, and their refusals as one list in document 01's order: "file by file 1, 2, 4, 3, 5, 6, 7,
-- each over the whole file; then 8, 9", where the fourth file of document 02 has 1, 2, 4, 3, 32, 33 and 34, and the fifth 1, 2, 4, 3,
-- 35 and 36. Assumes nothing.
use Rattle.std.specs.Prelude.{ℕ, List, [], ◌∷◌, ◌++◌, map, get_or, Option, option_map}
use Rattle.base.specs.Search.{first_of}
use Rattle.tables.specs.Rows.{SupplyRow, ScheduleRow, PointRow, ParentRow, constraint_row, supply_row, schedule_row, point_row, parent_row}
use Rattle.tables.specs.declared.constraint.ConstraintRow.{ConstraintRow}
use Rattle.tables.specs.Table.{table, header_text}
use Rattle.tables.specs.Values.{cells}
use Rattle.tables.specs.Reading.{rows, refusal}
use Rattle.tables.specs.declared.files.File.{File}
use Rattle.tables.specs.declared.files.File.TheVariants.{Constraint, Supply, Schedules, Curves, Parents}
use Rattle.tables.specs.declared.files.Refusal.{Refusal}
use Rattle.tables.specs.Refusals.{refused, told}
use Rattle.affiliates.specs.Affiliates.{given_twice, ringed, grouped}
use Rattle.supply.specs.Supply.{units, over_limit, supply_at_odds}
use Rattle.schedules.specs.Schedules.{schedules_at_odds, not_in_supply, unscheduled}
use Rattle.schedules.specs.Runs.{lacking}
use Rattle.curves.specs.Curves.{stray_point, disordered, ends_low, priced}

-- the bytes of a study's files
pub record Files : Type 0 where
  pub constraint : List ℕ
  pub supply : List ℕ
  pub schedules : List ℕ
  pub curves : List ℕ
  pub parents : List ℕ

abbrev pub files : List ℕ → List ℕ → List ℕ → List ℕ → List ℕ → Files
files constraint supply schedules curves parents =
    record { constraint = constraint; supply = supply; schedules = schedules; curves = curves; parents = parents }

-- a file's rows as cells
unfoldable pub rows_as_cells : File → List ℕ → List (List ℕ)
rows_as_cells f s = map (cells (table f).columns) (rows s)

-- the constraint file's one row
unfoldable pub constraint_of : List ℕ → ConstraintRow
constraint_of c = constraint_row (get_or (rows_as_cells Constraint c) 0 [])

unfoldable pub supply_of : List ℕ → List SupplyRow
supply_of s = map supply_row (rows_as_cells Supply s)

unfoldable pub schedules_of : List ℕ → List ScheduleRow
schedules_of s = map schedule_row (rows_as_cells Schedules s)

-- curves and parents: of no bytes, such a file counts as its header alone
unfoldable pub or_header : File → List ℕ → List ℕ
or_header f [] = header_text f
or_header f (b ∷ s) = b ∷ s

unfoldable pub curves_of : List ℕ → List PointRow
curves_of k = map point_row (rows_as_cells Curves (or_header Curves k))

unfoldable pub parents_of : List ℕ → List ParentRow
parents_of p = map parent_row (rows_as_cells Parents (or_header Parents p))

-- schedule rows at the prices of their curves: "A schedule hour with points uses it in place of its price column"
unfoldable pub scheduled_of : Files → List ScheduleRow
scheduled_of f = priced (curves_of f.curves) (schedules_of f.schedules)

-- supply by groups: "The head stands in for the supplier"
unfoldable pub groups_of : Files → List SupplyRow
groups_of f = grouped (parents_of f.parents) (supply_of f.supply)

-- the refusals between points of curves and schedule rows
unfoldable pub point_refusals : List ScheduleRow → List PointRow → List (Option Refusal)
point_refusals rs vs =
    option_map (refused 32 Curves) (stray_point rs vs)
    ∷ option_map (refused 33 Curves) (disordered vs)
    ∷ option_map (refused 34 Curves) (ends_low rs vs)
    ∷ []

-- the refusals between the rows of parents
unfoldable pub affiliate_refusals : List ParentRow → List (Option Refusal)
affiliate_refusals ps =
    option_map (refused 35 Parents) (given_twice ps) ∷ option_map (refused 36 Parents) (ringed ps) ∷ []

-- the refusals of a file alone: 1, 2, 4 and 3 by reading it, then those between its rows; points go by the rows of schedules
unfoldable pub alone_refusals : File → List ℕ → List (Option Refusal)
alone_refusals Constraint c = refusal Constraint c ∷ []
alone_refusals Supply s =
    refusal Supply s
    ∷ option_map (refused 5 Supply) (over_limit (supply_of s))
    ∷ option_map (refused 6 Supply) (supply_at_odds (supply_of s))
    ∷ []
alone_refusals Schedules s =
    refusal Schedules s ∷ option_map (refused 6 Schedules) (schedules_at_odds (schedules_of s)) ∷ []
alone_refusals Curves k = refusal Curves (or_header Curves k) ∷ []
alone_refusals Parents p = refusal Parents (or_header Parents p) ∷ affiliate_refusals (parents_of p)

-- constraint and supply together
unfoldable pub market_refusals : List ℕ → List ℕ → List (Option Refusal)
market_refusals c s = alone_refusals Constraint c ++ alone_refusals Supply s

-- schedules beside the units of supply
unfoldable pub schedules_refusals : List ℕ → List ℕ → List (Option Refusal)
schedules_refusals us s =
    alone_refusals Schedules s ++ (option_map (refused 7 Schedules) (not_in_supply us (schedules_of s)) ∷ [])

-- curves beside the rows of schedules
unfoldable pub curves_refusals : List ScheduleRow → List ℕ → List (Option Refusal)
curves_refusals rs k = alone_refusals Curves k ++ point_refusals rs (curves_of k)

-- "then 8, 9": the units of supply that lack schedule rows, for a study hour
unfoldable pub units_refusals : ℕ → List ℕ → List ScheduleRow → List (Option Refusal)
units_refusals hour us rs =
    option_map (refused 8 Schedules) (unscheduled us rs) ∷ option_map (refused 9 Schedules) (lacking hour us rs) ∷ []

-- what comes behind a market with this hour and these units: schedules, their curves, other files' refusals, and 8, 9
unfoldable pub beside_refusals : List (Option Refusal) → ℕ → List ℕ → List ℕ → List ℕ → List (Option Refusal)
beside_refusals others hour us s k =
    schedules_refusals us s ++ (curves_refusals (schedules_of s) k ++ (others ++ units_refusals hour us (schedules_of s)))

-- all files
unfoldable pub check_refusals : Files → List (Option Refusal)
check_refusals f =
    market_refusals f.constraint f.supply
    ++ beside_refusals (alone_refusals Parents f.parents) (constraint_of f.constraint).hour (units (supply_of f.supply))
    f.schedules
    f.curves

unfoldable pub check_refusal : Files → Option Refusal
check_refusal f = first_of (check_refusals f)

-- "A check .. answers 0 or the number of the first refusal, as far as 9 in the order below, that a study of them gives."
unfoldable pub check_number : Files → ℕ
check_number f = (told (check_refusal f)).number
