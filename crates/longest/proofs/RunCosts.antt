-- The most that a schedule costs, where rows are within their ranges and no two of one schedule share the hour: its run has
-- at most one row for each hour of the day. Assumes nothing.
use Rattle.std.specs.Prelude.{None}
use Prim.Native.Nat.{ℕ, zero, suc, ◌+◌, ◌*◌, ◌≤◌}
use mathlib.Core.Path.{◌≡◌, refl, sym, ◌∙◌}
use mathlib.Core.Bool.{Bool, true, false, cond, ◌&&◌, ◌||◌}
use mathlib.Core.List.{List, [], ◌∷◌}
use native.Mathlib.Omega.{arith}
use lib.Dec.{eqb, leb, ltb}
use borrow.Author.Tests.{ltb-true, ltb-false, lt-ltb, eq-eqb, eqb-true, eqb-false, leb-true}
use Rattle.base.specs.Search.{any, those, first_at_odds, All, all_more}
use Rattle.base.proofs.Elements.{any-mem, none-mem}
use Rattle.base.proofs.Tests.{false-true, and-fst, and-snd}
use Rattle.hours.specs.Hours.{last_hour, run_end, in_run}
use Rattle.tables.specs.promises.Ranges.{PermittedSchedule}
use Rattle.tables.specs.Rows.{ScheduleRow}
use Rattle.schedules.specs.Schedules.{schedule_odds, schedules_at_odds, own}
use Rattle.schedules.proofs.OddsLaws.{odds-hours}
use Rattle.choice.specs.Cost.{hour_cost, most_hour, running_cost, in_its_run, share, run_cost, starting_cost, cost}
use Rattle.choice.proofs.CostLaws.{hour-small}
use Rattle.longest.specs.Longest.{most_cost}
use Rattle.base.proofs.SearchLaws.{odds-none}

-- what the rows that pass a test cost
unfoldable cost_of : (ScheduleRow → Bool) → List ScheduleRow → ℕ
cost_of p [] = 0
cost_of p (r ∷ rs) = cond (p r) (hour_cost r) 0 + cost_of p rs

-- the hours before the next are those before this one, and this one
hour-more :
    (s : Bool) (j k c : ℕ) → cond (s && ltb j (suc k)) c 0 ≤ cond (s && ltb j k) c 0 + cond (s && eqb j k) c 0
hour-more false j k c = omega arith
hour-more true j k c = go (ltb j (suc k)) (ltb j k) (eqb j k) refl refl refl
  where
    go :
        (t v w : Bool) → ltb j (suc k) ≡ t → ltb j k ≡ v → eqb j k ≡ w →
        cond t c 0 ≤ cond v c 0 + cond w c 0
    go false v w e f g = omega arith
    go true true w e f g = omega arith
    go true false true e f g = omega arith
    go true false false e f g = absurd (omega (arith, ltb-true j (suc k) e, ltb-false j k f, eqb-false j k g))

-- the rows of the unit u and its schedule x
module _ (u x : ℕ) where
  unfoldable of_schedule : ScheduleRow → Bool
  of_schedule r = eqb r.unit u && eqb r.schedule x

  -- for the hour k, and for those before k
  unfoldable at : ℕ → ScheduleRow → Bool
  at k r = of_schedule r && eqb r.hour k

  unfoldable before : ℕ → ScheduleRow → Bool
  before k r = of_schedule r && ltb r.hour k

  is-at : (k : ℕ) (r : ScheduleRow) → at k r ≡ true → (r.unit ≡ u) × (r.schedule ≡ x) × (r.hour ≡ k)
  unfolding at of_schedule
  is-at k r e =
      let its-unit = eqb r.unit u in
      let its-number = eqb r.schedule x in
      let both = and-fst (its-unit && its-number) (eqb r.hour k) e in (
        eqb-true r.unit u (and-fst its-unit its-number both),
        eqb-true r.schedule x (and-snd its-unit its-number both),
        eqb-true r.hour k (and-snd (its-unit && its-number) (eqb r.hour k) e),
      )

  -- two rows for the same hour are at odds
  at-odds : (k : ℕ) (r e : ScheduleRow) → at k r ≡ true → at k e ≡ true → schedule_odds r e ≡ true
  at-odds k r e f g =
      let (unit, number, hour) = is-at k r f in
      let (unit', number', hour') = is-at k e g in
      sym (odds-hours r e (unit ∙ sym unit') (number ∙ sym number') (hour ∙ sym hour'))

  -- so an hour costs no more than one row does, and nothing behind a row for it
  once :
      (k : ℕ) (seen : List ScheduleRow) (i : ℕ) (rs : List ScheduleRow) → All PermittedSchedule rs →
      first_at_odds schedule_odds seen i rs ≡ None →
      cond (any (at k) seen) most_hour 0 + cost_of (at k) rs ≤ most_hour
  unfolding any cost_of
  once k seen i [] a e = go (any (at k) seen)
    where
      go : (t : Bool) → cond t most_hour 0 + 0 ≤ most_hour
      go true = omega arith
      go false = omega arith
  once k seen i (r ∷ rs) (all_more p a) e =
      let (fits, rest) = odds-none schedule_odds seen i r rs e in
      go (at k r) (any (at k) seen) refl refl fits (once k (r ∷ seen) (suc i) rs a rest)
    where
      go :
          (t v : Bool) → at k r ≡ t → any (at k) seen ≡ v → any (schedule_odds r) seen ≡ false →
          cond (t || v) most_hour 0 + cost_of (at k) rs ≤ most_hour →
          cond v most_hour 0 + (cond t (hour_cost r) 0 + cost_of (at k) rs) ≤ most_hour
      go true true f g fits h =
          let (y, m, of-y) = any-mem (at k) seen g in
          false-true (sym (none-mem (schedule_odds r) seen y fits m) ∙ at-odds k r y f of-y)
      go true false f g fits h = omega (arith, hour-small r p)
      go false v f g fits h = omega arith

  -- hour by hour
  hours-more :
      (k : ℕ) (rs : List ScheduleRow) → cost_of (before (suc k)) rs ≤ cost_of (before k) rs + cost_of (at k) rs
  unfolding cost_of before at
  hours-more k [] = omega arith
  hours-more k (r ∷ rs) = omega (arith, hour-more (of_schedule r) r.hour k (hour_cost r), hours-more k rs)

  none_before : (rs : List ScheduleRow) → cost_of (before 0) rs ≤ 0 * most_hour
  unfolding cost_of before
  none_before [] = omega arith
  none_before (r ∷ rs) = go (of_schedule r) (ltb r.hour 0) refl (none_before rs)
    where
      go :
          (s t : Bool) → ltb r.hour 0 ≡ t → cost_of (before 0) rs ≤ 0 * most_hour →
          cond (s && t) (hour_cost r) 0 + cost_of (before 0) rs ≤ 0 * most_hour
      go s true e h = absurd (omega (arith, ltb-true r.hour 0 e))
      go true false e h = omega arith
      go false false e h = omega arith

  module _ (rs : List ScheduleRow) (a : All PermittedSchedule rs) (e : schedules_at_odds rs ≡ None) where
    hours-small : (k : ℕ) → cost_of (before k) rs ≤ k * most_hour
    unfolding schedules_at_odds any
    hours-small zero = none_before rs
    hours-small (suc k) = omega (arith, hours-more k rs, once k [] 1 rs a e, hours-small k)

-- a row of the unit's run is one of its schedule, within the day
module _ (h u : ℕ) (s : ScheduleRow) where
  run-before : (r : ScheduleRow) → r.unit ≡ u → in_its_run h s r ≡ true → before u s.schedule (suc last_hour) r ≡ true
  unfolding in_its_run in_run run_end before of_schedule
  run-before r e f =
      let number = eqb r.schedule s.schedule in
      let runs = and-snd number (in_run h s.minrun r.hour) f in
      let ends = leb-true r.hour (run_end h s.minrun) (and-snd (leb h r.hour) _ runs) in
      simp (eq-eqb r.unit u e, and-fst number (in_run h s.minrun r.hour) f, lt-ltb r.hour (suc last_hour) (omega arith))

  run-within : (rs : List ScheduleRow) → run_cost h s (own u rs) ≤ cost_of (before u s.schedule (suc last_hour)) rs
  unfolding run_cost own those cost_of share
  run-within [] = omega arith
  run-within (r ∷ rs) = go (eqb r.unit u) (in_its_run h s r) (before u s.schedule (suc last_hour) r) refl refl refl (run-within rs)
    where
      later : List ScheduleRow
      later = own u rs

      go :
          (t v w : Bool) → eqb r.unit u ≡ t → in_its_run h s r ≡ v → before u s.schedule (suc last_hour) r ≡ w →
          run_cost h s later ≤ cost_of (before u s.schedule (suc last_hour)) rs →
          run_cost h s (cond t (r ∷ later) later) ≤ cond w (hour_cost r) 0 + cost_of (before u s.schedule (suc last_hour)) rs
      go false v w e f g ih = omega arith
      go true true w e f g ih =
          let counts : w ≡ true = sym g ∙ run-before r (eqb-true _ _ e) f in
          rw (counts, f) (omega arith)
      go true false w e f g ih = rw f (omega arith)

  module _ (rs : List ScheduleRow) (a : All PermittedSchedule rs) (e : schedules_at_odds rs ≡ None) (p : PermittedSchedule s) where
    pub cost-small : (running : Bool) → cost running h (own u rs) s ≤ most_cost
    unfolding cost running_cost starting_cost
    cost-small true = omega (arith, hour-small s p)
    cost-small false = omega (arith, run-within rs, hours-small u s.schedule rs a e (suc last_hour), p.startup)
