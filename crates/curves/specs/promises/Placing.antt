-- Points of curves as the code has them: in cells, with one more than the place of its schedule row for each in a run, and for each
-- row the last record of its curve in another. Assumes nothing.
use Rattle.std.specs.Prelude.{ℕ, ◌-◌, ◌*◌, ◌≤◌, ◌<◌, ◌≡◌, Bool, true, false, not, ◌&&◌, ◌||◌, List, eqb, leb, ltb, length, get_or, None, Option, MatchOption}
use Rattle.base.specs.Search.{any}
use Rattle.tables.specs.Rows.{ScheduleRow}
use Rattle.tables.specs.Table.{table}
use Rattle.tables.specs.declared.files.File.TheVariants.{Curves}
use Rattle.tables.specs.promises.FlatRows.{schedule_rows, point_rows}
use Rattle.cells.specs.promises.Views.{schedule_at, schedule_width, point_at, point_width}
use Rattle.links.specs.promises.Links.{last_same, most_linked}
use Rattle.schedules.specs.Schedules.{schedules_at_odds}
use Rattle.curves.specs.Curves.{point_of, same_curve, stray_point, most_points, disordered}

-- m points that stand in cells
pub record PointCells (m : ℕ) (points : List ℕ) : Type 0 where
  pub few : m ≤ (table Curves).most_rows
  pub inside : m * point_width ≤ length points

-- n schedule rows that stand in cells, at odds with none
pub record RowCells (n : ℕ) (cells : List ℕ) : Type 0 where
  pub few : n ≤ most_linked
  pub inside : n * schedule_width ≤ length cells
  pub agree : schedules_at_odds (schedule_rows n cells) ≡ None

-- the place of a row of point i, if there is one
abbrev pub RowFound : List ℕ → ℕ → ℕ → List ℕ → Option ℕ → Type 0
RowFound points i n cells r =
    MatchOption r
    (any (λ (row : ScheduleRow). point_of row (point_at points i)) (schedule_rows n cells) ≡ false)
    (λ (k : ℕ). (k < n) × (point_of (schedule_at cells k) (point_at points i) ≡ true))

-- the row of each point stands in a run
pub record Placed (m : ℕ) (points : List ℕ) (n : ℕ) (cells places : List ℕ) : Type 0 where
  pub room : m ≤ length places
  pub some-row : (i : ℕ) → i < m → 0 < get_or places i 0
  pub upto : (i : ℕ) → i < m → get_or places i 0 ≤ n
  pub its-row : (i : ℕ) → i < m → point_of (schedule_at cells (get_or places i 0 - 1)) (point_at points i) ≡ true

-- the first point without a row; and where there is none, the row of each
pub record PointsPlaced (m : ℕ) (points : List ℕ) (n : ℕ) (cells places : List ℕ) (r : Option ℕ) : Type 0 where
  pub stray : r ≡ stray_point (schedule_rows n cells) (point_rows m points)
  pub all_placed : stray_point (schedule_rows n cells) (point_rows m points) ≡ None → Placed m points n cells places

-- points of one curve, and no others, have one place
pub record CurvePlaces (m : ℕ) (points places : List ℕ) : Type 0 where
  pub room : m ≤ length places
  pub upto : (i : ℕ) → i < m → get_or places i 0 ≤ most_linked
  pub alike :
      (i j : ℕ) → i < m → j < m → same_curve (point_at points i) (point_at points j) ≡ eqb (get_or places j 0) (get_or places i 0)

-- what stands at a place of a run, as the key that links go by
abbrev pub place_key : List ℕ → ℕ → ℕ
place_key places i = get_or places i 0

-- the last record, of the first k, at each place: 0 for none
pub record LastsIn (places lasts : List ℕ) (k : ℕ) : Type 0 where
  pub room : most_linked < length lasts
  pub held : (x : ℕ) → x ≤ most_linked → get_or lasts x 0 ≡ last_same (place_key places) x k

-- whether point i breaks the order behind record `last` of its curve, which has so many points before
unfoldable pub breaks_behind : List ℕ → ℕ → ℕ → ℕ → Bool
breaks_behind points i last count =
    not (eqb last 0)
    && (not (ltb (point_at points (last - 1)).mw (point_at points i).mw && ltb (point_at points (last - 1)).price (point_at points i).price)
    || leb most_points count)

-- the first point out of order; and where there is none, the last record of each curve
pub record OrderFound (m : ℕ) (points places lasts : List ℕ) (r : Option ℕ) : Type 0 where
  pub fault : r ≡ disordered (point_rows m points)
  pub all-lasts : disordered (point_rows m points) ≡ None → LastsIn places lasts m
