-- What pricing rows by curves changes and what it leaves: rows without points keep their column; the rules 6 to 9 see no price; prices stay
-- within their range; and a unit's rows are priced by its own rows and its own points alone. Assumes nothing.
use Rattle.std.specs.Prelude.{Option, Some, option_map, unwrap_or}
use Prim.Native.Nat.{ℕ, zero, suc, ◌+◌, ◌-◌, ◌≤◌, ◌<◌}
use mathlib.Core.Path.{◌≡◌, refl, sym, ◌∙◌, ap, ap₂}
use mathlib.Core.Bool.{Bool, true, false, cond, not, ◌&&◌}
use mathlib.Core.List.{List, [], ◌∷◌, map}
use native.Mathlib.Omega.{arith}
use lib.Dec.{eqb, leb}
use lib.ListN.{length, drop, length-map}
use borrow.Author.Tests.{eq-eqb, eqb-true}
use Rattle.base.specs.Rising.{among}
use Rattle.base.specs.Search.{any, find, those, first_at_odds, All, all_none, all_more}
use Rattle.base.proofs.Elements.{all-those, find-same, those-within}
use Rattle.base.proofs.Lists.{drop-end, drop-map}
use Rattle.base.proofs.Mapped.{any-made, first_made, those-made}
use Rattle.hours.specs.Hours.{run_end}
use Rattle.tables.specs.Rows.{ScheduleRow, PointRow}
use Rattle.tables.specs.Table.{highest_cost}
use Rattle.tables.specs.promises.FlatRows.{schedule_rows, point_rows}
use Rattle.tables.specs.promises.Ranges.{PermittedSchedule, PermittedPoint}
use Rattle.cells.specs.promises.Views.{schedule_at}
use Rattle.cells.proofs.RowStores.{changed-rows}
use Rattle.cells.proofs.RowViews.{schedule-next, schedule-length}
use Rattle.links.specs.promises.Links.{RowsLinked}
use Rattle.links.proofs.LinkLaws.{rows_same}
use Rattle.schedules.specs.Schedules.{same_schedule, unlike, repeats, second_m, schedule_odds, schedules_at_odds, not_in_supply, own, unscheduled}
use Rattle.schedules.specs.Runs.{has_hours, has_run, lacking}
use Rattle.curves.specs.Curves.{ScheduleHour, point_of, price_at, with_price, priced_row, priced}
use Rattle.curves.specs.promises.Pricing.{RowsPriced}
use Rattle.curves.proofs.PointLaws.{of_row}

-- with no points each row is priced by its column
pub no-points : (rs : List ScheduleRow) → priced [] rs ≡ rs
unfolding priced priced_row price_at with_price those find
no-points [] = refl
no-points (r ∷ rs) = ap (λ (l : List ScheduleRow). r ∷ l) (no-points rs)

module _ (vs : List PointRow) where
  -- 6
  unseen-odds : (r e : ScheduleRow) → schedule_odds (priced_row vs r) (priced_row vs e) ≡ schedule_odds r e
  unfolding schedule_odds unlike repeats second_m same_schedule priced_row with_price
  unseen-odds r e = refl

  odds-seen : (r : ScheduleRow) (seen : List ScheduleRow) → any (schedule_odds (priced_row vs r)) (map (priced_row vs) seen) ≡ any (schedule_odds r) seen
  unfolding any
  odds-seen r [] = refl
  odds-seen r (e ∷ es) = rw (unseen-odds r e, odds-seen r es)

  odds-from :
      (seen : List ScheduleRow) (k : ℕ) (rs : List ScheduleRow) →
      first_at_odds schedule_odds (map (priced_row vs) seen) k (map (priced_row vs) rs) ≡ first_at_odds schedule_odds seen k rs
  unfolding first_at_odds
  odds-from seen k [] = refl
  odds-from seen k (r ∷ rs) = rw (odds-seen r seen, odds-from (r ∷ seen) (suc k) rs)

  pub priced-odds : (rs : List ScheduleRow) → schedules_at_odds (priced vs rs) ≡ schedules_at_odds rs
  unfolding schedules_at_odds priced
  priced-odds rs = odds-from [] 1 rs

  -- 7
  pub priced-known : (us : List ℕ) (rs : List ScheduleRow) → not_in_supply us (priced vs rs) ≡ not_in_supply us rs
  unfolding not_in_supply priced priced_row with_price
  priced-known us rs = first_made (priced_row vs) (λ (r : ScheduleRow). not (among r.unit us)) (λ _. refl) 1 rs

  -- a unit's own rows
  own-rows : (u : ℕ) (rs : List ScheduleRow) → own u (priced vs rs) ≡ priced vs (own u rs)
  unfolding own priced priced_row with_price
  own-rows u rs = those-made (priced_row vs) (λ (r : ScheduleRow). eqb r.unit u) (λ _. refl) rs

  -- 8
  priced-has : (rs : List ScheduleRow) (u : ℕ) → any (λ (r : ScheduleRow). eqb r.unit u) (priced vs rs) ≡ any (λ (r : ScheduleRow). eqb r.unit u) rs
  unfolding priced priced_row with_price
  priced-has rs u = any-made (priced_row vs) (λ (r : ScheduleRow). eqb r.unit u) (λ _. refl) rs

  pub priced-scheduled : (us : List ℕ) (rs : List ScheduleRow) → unscheduled us (priced vs rs) ≡ unscheduled us rs
  unfolding unscheduled
  priced-scheduled us rs = find-same _ _ us (λ (u : ℕ). ap not (priced-has rs u))

  -- 9
  priced-hours : (r : ScheduleRow) (k n : ℕ) (rs : List ScheduleRow) → has_hours (priced_row vs r) k n (priced vs rs) ≡ has_hours r k n rs
  unfolding has_hours same_schedule priced priced_row with_price
  priced-hours r k zero rs = refl
  priced-hours r k (suc n) rs =
      rw (
        any-made (priced_row vs) (λ (e : ScheduleRow). same_schedule r e && eqb e.hour k) (λ _. refl) rs,
        priced-hours r (suc k) n rs,
      )

  priced-run : (h : ℕ) (rs : List ScheduleRow) (r : ScheduleRow) → has_run h (priced vs rs) (priced_row vs r) ≡ has_run h rs r
  unfolding has_run priced_row with_price
  priced-run h rs r = priced-hours r h (suc (run_end h r.minrun) - h) rs

  runs-lack :
      (h : ℕ) (rs xs : List ScheduleRow) →
      any (λ (r : ScheduleRow). not (has_run h (priced vs rs) r)) (priced vs xs) ≡ any (λ (r : ScheduleRow). not (has_run h rs r)) xs
  unfolding any priced
  runs-lack h rs [] = refl
  runs-lack h rs (x ∷ xs) = rw (priced-run h rs x, runs-lack h rs xs)

  pub priced-runs : (h : ℕ) (us : List ℕ) (rs : List ScheduleRow) → lacking h us (priced vs rs) ≡ lacking h us rs
  unfolding lacking
  priced-runs h us rs = find-same _ _ us (λ (u : ℕ). rw (own-rows u rs) (runs-lack h (own u rs) (own u rs)))

  pub priced-count : (rs : List ScheduleRow) → length (priced vs rs) ≡ length rs
  unfolding priced
  priced-count rs = length-map rs (priced_row vs)

-- a curve's prices are within their range
price-ranged : (ecomin d : ℕ) {vs : List PointRow} → All PermittedPoint vs → d ≤ highest_cost → unwrap_or (price_at ecomin vs) d ≤ highest_cost
unfolding price_at find
price-ranged ecomin d all_none h = h
price-ranged ecomin d {vs = v ∷ vs} (all_more p a) h = go (leb ecomin v.mw) (price-ranged ecomin d a h)
  where
    more : Option PointRow
    more = find (λ (w : PointRow). leb ecomin w.mw) vs

    go :
        (t : Bool) → unwrap_or (option_map (λ (w : PointRow). w.price) more) d ≤ highest_cost →
        unwrap_or (option_map (λ (w : PointRow). w.price) (cond t (Some v) more)) d ≤ highest_cost
    go true _ = p.price
    go false below = below

pub priced-permitted : {vs : List PointRow} {rs : List ScheduleRow} → All PermittedPoint vs → All PermittedSchedule rs → All PermittedSchedule (priced vs rs)
unfolding priced priced_row with_price
priced-permitted points all_none = all_none
priced-permitted {rs = r ∷ rs} points (all_more p a) =
    all_more
    (record {
      some-unit = p.some-unit;
      unit = p.unit;
      some-schedule = p.some-schedule;
      schedule = p.schedule;
      kind = p.kind;
      hour = p.hour;
      ecomin = p.ecomin;
      price = price-ranged r.ecomin r.price (all-those (point_of r) points) p.price;
      noload = p.noload;
      startup = p.startup;
      some-minrun = p.some-minrun;
      minrun = p.minrun;
    })
    (priced-permitted points a)

-- the points of a unit
abbrev pub own_points : ℕ → List PointRow → List PointRow
own_points u vs = those (λ (v : PointRow). eqb v.unit u) vs

row-by-own : (vs : List PointRow) (r : ScheduleRow) → priced_row (own_points r.unit vs) r ≡ priced_row vs r
unfolding priced_row
row-by-own vs r = rw (those-within (λ (v : PointRow). eqb v.unit r.unit) (point_of r) of-unit vs)
  where
    of-unit : (v : PointRow) → point_of r v ≡ true → eqb v.unit r.unit ≡ true
    of-unit v e = eq-eqb v.unit r.unit (ap (λ (h : ScheduleHour). h.unit) (of_row r v e))

-- a unit's priced rows go by its own rows and its own points alone
by-own : (u : ℕ) (vs : List PointRow) (rs : List ScheduleRow) → priced vs (own u rs) ≡ priced (own_points u vs) (own u rs)
unfolding own those priced
by-own u vs [] = refl
by-own u vs (r ∷ rs) = go (eqb r.unit u) refl (by-own u vs rs)
  where
    go :
        (t : Bool) → eqb r.unit u ≡ t → priced vs (own u rs) ≡ priced (own_points u vs) (own u rs) →
        priced vs (cond t (r ∷ own u rs) (own u rs)) ≡ priced (own_points u vs) (cond t (r ∷ own u rs) (own u rs))
    go true e below = ap₂ ◌∷◌ (sym (row-by-own vs r) ∙ rw (eqb-true r.unit u e)) below
    go false e below = below

pub priced-own : (u : ℕ) (vs : List PointRow) (rs : List ScheduleRow) → own u (priced vs rs) ≡ priced (own_points u vs) (own u rs)
priced-own u vs rs = own-rows vs u rs ∙ by-own u vs rs

-- rows that were priced in place
module _ {m : ℕ} {points : List ℕ} {n : ℕ} {old new : List ℕ} (p : RowsPriced m points n old new) where
  pub rows-priced : schedule_rows n new ≡ priced (point_rows m points) (schedule_rows n old)
  unfolding priced
  rows-priced =
      changed-rows schedule_at (λ (j : ℕ). priced_row (point_rows m points)) n old new (schedule_rows n new) (schedule-length n new)
      (schedule-next n new)
      (λ (j : ℕ). map (priced_row (point_rows m points)) (drop j (schedule_rows n old)))
      (rw (drop-end n (schedule_rows n old) (rw (schedule-length n old) (omega arith))))
      (λ (j : ℕ) (f : j < n). rw (schedule-next n old j f))
      p.each

-- rows at the prices of points are linked as they were
module _ (vs : List PointRow) (n : ℕ) (old new : List ℕ) (are : schedule_rows n new ≡ priced vs (schedule_rows n old)) where
  row-priced : (j : ℕ) → j < n → schedule_at new j ≡ priced_row vs (schedule_at old j)
  unfolding priced
  row-priced j h =
      let rest :
      schedule_at new j ∷ drop (j + 1) (schedule_rows n new)
      ≡ priced_row vs (schedule_at old j) ∷ map (priced_row vs) (drop (j + 1) (schedule_rows n old)) =
      sym (schedule-next n new j h) ∙ ap (drop j) are ∙ drop-map (priced_row vs) j (schedule_rows n old)
      ∙ ap (map (priced_row vs)) (schedule-next n old j h) in
      cc

  pub priced-linked : {links : List ℕ} → RowsLinked old n links → RowsLinked new n links
  unfolding priced_row with_price
  priced-linked =
      rows_same old new n
      (λ j h. ap (λ (r : ScheduleRow). r.unit) (row-priced j h))
      (λ j h. ap (λ (r : ScheduleRow). r.schedule) (row-priced j h))
