-- Laws of schedule hours: of two that are the same, of a point and the one row that has its hour, and of one point against its row, by
-- the tests in the code's order. Assumes nothing.
use Prim.Native.Nat.{ℕ, ◌-◌, ◌≤◌, ◌<◌}
use mathlib.Core.Path.{◌≡◌, sym, ◌∙◌, ap}
use mathlib.Core.Bool.{true, false, ◌&&◌, and-false, and-true}
use mathlib.Core.List.{List}
use lib.Dec.{eqb, leb}
use borrow.Author.Tests.{eq-eqb, ne_eqb, eqb-true, lt-ltb, le-ltb}
use Rattle.base.proofs.SearchLaws.{same_test}
use Rattle.base.proofs.Tests.{and-fst, and-snd}
use Rattle.tables.specs.Rows.{ScheduleRow, PointRow}
use Rattle.cells.specs.promises.Views.{schedule_at, point_at}
use Rattle.schedules.proofs.OddsLaws.{one-row}
use Rattle.curves.specs.Curves.{ScheduleHour, hour_of_row, hour_of_point, same_hour, point_of, same_curve, most_points}
use Rattle.curves.specs.promises.Placing.{RowCells, breaks_behind}

abbrev schedule_hour : ℕ → ℕ → ℕ → ScheduleHour
schedule_hour u s h = record { unit = u; schedule = s; hour = h }

by-fields : {u v s t h k : ℕ} → u ≡ v → s ≡ t → h ≡ k → schedule_hour u s h ≡ schedule_hour v t k
by-fields d e f = rw (d, e, f)

module _ (a b : ScheduleHour) where
  pub hour-is : same_hour a b ≡ true → a ≡ b
  unfolding same_hour
  hour-is e =
      let both = and-fst (eqb a.unit b.unit && eqb a.schedule b.schedule) (eqb a.hour b.hour) e in
      by-fields
      (eqb-true a.unit b.unit (and-fst (eqb a.unit b.unit) (eqb a.schedule b.schedule) both))
      (eqb-true a.schedule b.schedule (and-snd (eqb a.unit b.unit) (eqb a.schedule b.schedule) both))
      (eqb-true a.hour b.hour (and-snd (eqb a.unit b.unit && eqb a.schedule b.schedule) (eqb a.hour b.hour) e))

  pub same-hour : a ≡ b → same_hour a b ≡ true
  unfolding same_hour
  same-hour e =
      simp (
        eq-eqb a.unit b.unit (ap (λ (x : ScheduleHour). x.unit) e),
        eq-eqb a.schedule b.schedule (ap (λ (x : ScheduleHour). x.schedule) e),
        eq-eqb a.hour b.hour (ap (λ (x : ScheduleHour). x.hour) e),
      )

-- a point and a row
module _ (r : ScheduleRow) (v : PointRow) where
  pub of_row : point_of r v ≡ true → hour_of_point v ≡ hour_of_row r
  unfolding point_of
  of_row = hour-is (hour_of_point v) (hour_of_row r)

  pub row_has : hour_of_point v ≡ hour_of_row r → point_of r v ≡ true
  unfolding point_of
  row_has = same-hour (hour_of_point v) (hour_of_row r)

  -- by the tests of the code
  pub of-hours : (v.hour ≡ r.hour → ⊥) → false ≡ point_of r v
  unfolding point_of same_hour
  of-hours h = simp (ne_eqb v.hour r.hour h, and-false)

  pub of-schedules : (v.schedule ≡ r.schedule → ⊥) → false ≡ point_of r v
  unfolding point_of same_hour
  of-schedules s = simp (ne_eqb v.schedule r.schedule s, and-false)

  pub of-units : (x y : ℕ) → v.hour ≡ r.hour → v.schedule ≡ r.schedule → x ≡ v.unit → y ≡ r.unit → eqb x y ≡ point_of r v
  unfolding point_of same_hour
  of-units x y h s is is-r =
      rw (is, is-r) (sym (simp (eq-eqb v.hour r.hour h, eq-eqb v.schedule r.schedule s, and-true)))

-- no two rows have one schedule hour
pub row-once :
    {n : ℕ} {cells : List ℕ} → RowCells n cells → (v : PointRow) (j k : ℕ) → j < n → k < n → point_of (schedule_at cells j) v ≡ true →
    point_of (schedule_at cells k) v ≡ true → j ≡ k
row-once {n} {cells} c v j k in-j in-k of-j of-k =
    let same : hour_of_row (schedule_at cells j) ≡ hour_of_row (schedule_at cells k) = sym (of_row (schedule_at cells j) v of-j) ∙ of_row (schedule_at cells k) v of-k in
    one-row n cells c.agree j k in-j in-k
    (ap (λ (x : ScheduleHour). x.unit) same)
    (ap (λ (x : ScheduleHour). x.schedule) same)
    (ap (λ (x : ScheduleHour). x.hour) same)

-- points of one row are of one curve
pub one-curve :
    (r : ScheduleRow) (v w : PointRow) → point_of r v ≡ true → same_curve v w ≡ point_of r w
unfolding same_curve
one-curve r v w of-v =
    same_test (same_hour (hour_of_point v) (hour_of_point w)) (point_of r w)
    (λ same. row_has r w (sym (hour-is (hour_of_point v) (hour_of_point w) same) ∙ of_row r v of-v))
    (λ of-w. same-hour (hour_of_point v) (hour_of_point w) (of_row r v of-v ∙ sym (of_row r w of-w)))

-- the order of a point behind the last one of its curve, by the tests of the code
module _ (points : List ℕ) (i last count : ℕ) where
  pub breaks-none : last ≡ 0 → false ≡ breaks_behind points i last count
  unfolding breaks_behind
  breaks-none e = simp (eq-eqb last 0 e)

  module _ (some-point : last ≡ 0 → ⊥) where
    abbrev before : PointRow
    before = point_at points (last - 1)

    pub breaks-mw : (point_at points i).mw ≤ before.mw → true ≡ breaks_behind points i last count
    unfolding breaks_behind
    breaks-mw h = simp (ne_eqb last 0 some-point, le-ltb before.mw (point_at points i).mw h)

    module _ (rises : before.mw < (point_at points i).mw) where
      pub breaks-price : (point_at points i).price ≤ before.price → true ≡ breaks_behind points i last count
      unfolding breaks_behind
      breaks-price h =
          simp (
            ne_eqb last 0 some-point,
            lt-ltb before.mw (point_at points i).mw rises,
            le-ltb before.price (point_at points i).price h,
          )

      pub breaks-count : before.price < (point_at points i).price → leb most_points count ≡ breaks_behind points i last count
      unfolding breaks_behind
      breaks-count h =
          sym
          (simp (
            ne_eqb last 0 some-point,
            lt-ltb before.mw (point_at points i).mw rises,
            lt-ltb before.price (point_at points i).price h,
          ))
