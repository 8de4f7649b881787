-- Document 02, F-3: "Sellers submit a curve, not one price." The points of one schedule hour, in file order, are its curve:
-- what they must be to schedule rows and to each other, and the price that a row has by them. Assumes nothing.
use Rattle.std.specs.Prelude.{ℕ, suc, Bool, false, cond, not, ◌&&◌, ◌||◌, List, [], ◌∷◌, map, eqb, leb, ltb, length, None, Option, Some, option_map, unwrap_or}
use Rattle.base.specs.Search.{first, any, find, those}
use Rattle.tables.specs.Rows.{ScheduleRow, PointRow}

-- a schedule hour: that of a row, and that of a point
pub record ScheduleHour : Type 0 where
  pub unit : ℕ
  pub schedule : ℕ
  pub hour : ℕ

abbrev pub hour_of_row : ScheduleRow → ScheduleHour
hour_of_row r = record { unit = r.unit; schedule = r.schedule; hour = r.hour }

abbrev pub hour_of_point : PointRow → ScheduleHour
hour_of_point v = record { unit = v.unit; schedule = v.schedule; hour = v.hour }

unfoldable pub same_hour : ScheduleHour → ScheduleHour → Bool
same_hour a b = eqb a.unit b.unit && eqb a.schedule b.schedule && eqb a.hour b.hour

-- whether a point is of a row's schedule hour, and whether two points are of one curve
unfoldable pub point_of : ScheduleRow → PointRow → Bool
point_of r v = same_hour (hour_of_point v) (hour_of_row r)

unfoldable pub same_curve : PointRow → PointRow → Bool
same_curve v w = same_hour (hour_of_point v) (hour_of_point w)

-- "at most ten points per schedule and hour"
abbrev pub most_points : ℕ
most_points = 10

-- "In file order each curve's mw and price strictly rise": whether a point breaks this, or is one too many, behind those of its
-- curve, of which the last comes first
unfoldable pub breaks_order : PointRow → List PointRow → Bool
breaks_order v [] = false
breaks_order v (w ∷ ws) = not (ltb w.mw v.mw && ltb w.price v.price) || leb most_points (length (w ∷ ws))

-- "The price at ecomin is that of the first point whose mw is at least ecomin."
unfoldable pub price_at : ℕ → List PointRow → Option ℕ
price_at ecomin vs = option_map (λ (v : PointRow). v.price) (find (λ (v : PointRow). leb ecomin v.mw) vs)

-- "A schedule hour with points uses it in place of its price column; one without uses the column."
unfoldable pub with_price : ScheduleRow → ℕ → ScheduleRow
with_price r price =
    record {
      unit = r.unit;
      schedule = r.schedule;
      kind = r.kind;
      hour = r.hour;
      ecomin = r.ecomin;
      price = price;
      noload = r.noload;
      startup = r.startup;
      minrun = r.minrun;
    }

unfoldable pub priced_row : List PointRow → ScheduleRow → ScheduleRow
priced_row vs r = with_price r (unwrap_or (price_at r.ecomin (those (point_of r) vs)) r.price)

unfoldable pub priced : List PointRow → List ScheduleRow → List ScheduleRow
priced vs rs = map (priced_row vs) rs

-- 32: "a point whose schedule hour isn't in the schedules"
unfoldable pub stray_point : List ScheduleRow → List PointRow → Option ℕ
stray_point rs vs = first (λ (v : PointRow). not (any (λ (r : ScheduleRow). point_of r v) rs)) 1 vs

-- 33: "an order or number of points outside these rules", the first record, where the list's first has the number k and `seen` came
-- before it, the last first
unfoldable pub disordered_from : List PointRow → ℕ → List PointRow → Option ℕ
disordered_from seen k [] = None
disordered_from seen k (v ∷ vs) =
    let more = disordered_from (v ∷ seen) (suc k) vs in
    cond (breaks_order v (those (same_curve v) seen)) (Some k) more

unfoldable pub disordered : List PointRow → Option ℕ
disordered vs = disordered_from [] 1 vs

-- whether a point lies below the ecomin of its schedule hour
unfoldable pub below_ecomin : List ScheduleRow → PointRow → Bool
below_ecomin rs v = any (λ (r : ScheduleRow). point_of r v && ltb v.mw r.ecomin) rs

-- 34: "a curve ending below ecomin .. the first record, for 34 the curve's last": the first record that is its curve's last and
-- lies below, where the list's first has the number k
unfoldable pub ends_low_from : List ScheduleRow → ℕ → List PointRow → Option ℕ
ends_low_from rs k [] = None
ends_low_from rs k (v ∷ vs) =
    let more = ends_low_from rs (suc k) vs in
    cond (not (any (same_curve v) vs) && below_ecomin rs v) (Some k) more

unfoldable pub ends_low : List ScheduleRow → List PointRow → Option ℕ
ends_low rs vs = ends_low_from rs 1 vs
