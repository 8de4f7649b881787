-- The schedule rows of a unit, where the rules of refusals 6, 8 and 9 are kept: no two of one schedule share the hour, and
-- there is one for the study hour. Assumes nothing.
use Rattle.std.specs.Prelude.{None}
use Prim.Native.Nat.{ℕ, suc, ◌-◌, ◌≤◌}
use mathlib.Core.Path.{◌≡◌, sym, ◌∙◌}
use mathlib.Core.Bool.{Bool, true, not, ◌&&◌}
use mathlib.Core.List.{List, Memᴰ as Among}
use native.Mathlib.Omega.{arith}
use lib.Dec.{eqb}
use borrow.Author.Tests.{eq-eqb, eqb-true, not-false}
use Rattle.base.specs.Search.{any, All}
use Rattle.base.proofs.Elements.{all-mem, any-mem, none-mem, mem-those, those-mem}
use Rattle.base.proofs.Tests.{false-true, and-fst, and-snd}
use Rattle.hours.specs.Hours.{last_hour, run_end}
use Rattle.tables.specs.promises.Ranges.{PermittedSchedule}
use Rattle.tables.specs.Rows.{ScheduleRow}
use Rattle.schedules.specs.Schedules.{same_schedule, schedule_odds, schedules_at_odds, own, unscheduled}
use Rattle.schedules.specs.Runs.{has_hours, has_run, lacking}
use Rattle.schedules.proofs.OddsLaws.{odds-hours}
use Rattle.choice.specs.Schedules.{at_hour, schedules}
use Rattle.choice.specs.promises.OneRow.{OneRowEach}
use Rattle.base.proofs.SearchLaws.{none_found, Agree, same, behind, before, agree}

-- a row among the unit's own, and one of them for the study hour
module _ (u : ℕ) (rows : List ScheduleRow) where
  abbrev its : ScheduleRow → Bool
  its r = eqb r.unit u

  own_row : {r : ScheduleRow} → Among r (own u rows) → Among r rows × (r.unit ≡ u)
  unfolding own
  own_row {r} m =
      let (n, t) = those-mem its rows m in
      (n, eqb-true r.unit u t)

  row-own : {r : ScheduleRow} → Among r rows → r.unit ≡ u → Among r (own u rows)
  unfolding own
  row-own {r} m e = mem-those its m (eq-eqb r.unit u e)

module _ (h : ℕ) (rows : List ScheduleRow) where
  scheduled-row : {r : ScheduleRow} → Among r (schedules h rows) → Among r rows × (r.hour ≡ h)
  unfolding schedules at_hour
  scheduled-row {r} m =
      let (n, t) = those-mem (at_hour h) rows m in
      (n, eqb-true r.hour h t)

  row-scheduled : {r : ScheduleRow} → Among r rows → r.hour ≡ h → Among r (schedules h rows)
  unfolding schedules at_hour
  row-scheduled {r} m e = mem-those (at_hour h) m (eq-eqb r.hour h e)

module _ (rows : List ScheduleRow) (agrees : schedules_at_odds rows ≡ None) where
  -- two rows of one schedule for one hour are the same row
  pub one-row :
      (a b : ScheduleRow) → Among a rows → Among b rows → a.unit ≡ b.unit → a.schedule ≡ b.schedule →
      a.hour ≡ b.hour → a ≡ b
  unfolding schedules_at_odds
  one-row a b m n u s h = go (agree schedule_odds 1 agrees m n)
    where
      go : Agree schedule_odds a b → a ≡ b
      go (same e) = e
      go (behind o) = false-true (sym o ∙ sym (odds-hours a b u s h))
      go (before o) = false-true (sym o ∙ sym (odds-hours b a (sym u) (sym s) (sym h)))

  pub one-row-each : (h u : ℕ) → OneRowEach h (own u rows)
  one-row-each h u =
      record {
        same = λ a b m n s.
            let (i, at_a) = scheduled-row h (own u rows) m in
            let (j, at_b) = scheduled-row h (own u rows) n in
            let (k, of-a) = own_row u rows i in
            let (l, of-b) = own_row u rows j in
            one-row a b k l (of-a ∙ sym of-b) s (at_a ∙ sym at_b);
      }

-- a unit has a schedule, and each of its schedules a row for the study hour
module _ (h : ℕ) (us : List ℕ) (rows : List ScheduleRow) (u : ℕ) (m : Among u us) where
  has-row : unscheduled us rows ≡ None → (r : ScheduleRow) × Among r rows × (r.unit ≡ u)
  unfolding unscheduled
  has-row f =
      let some-row = not-false _ (none_found (λ (u : ℕ). not (any (λ (r : ScheduleRow). eqb r.unit u) rows)) f m) in
      let (r, n, t) = any-mem (λ (r : ScheduleRow). eqb r.unit u) rows some-row in
      (r, n, eqb-true r.unit u t)

  abbrev lacks_run : ℕ → ScheduleRow → Bool
  lacks_run u r = not (has_run h (own u rows) r)

  has-run : lacking h us rows ≡ None → (r : ScheduleRow) → Among r (own u rows) → has_run h (own u rows) r ≡ true
  unfolding lacking
  has-run f r n =
      let none-lacks = none_found (λ (u : ℕ). any (lacks_run u) (own u rows)) f m in
      not-false _ (none-mem (lacks_run u) (own u rows) r none-lacks n)

  first-hour :
      (r : ScheduleRow) → h ≤ last_hour → 1 ≤ r.minrun → has_run h (own u rows) r ≡ true →
      (e : ScheduleRow) × Among e (schedules h (own u rows))
  unfolding has_run has_hours run_end
  first-hour r hour some-minrun e =
      let hours : suc (run_end h r.minrun) - h ≡ suc (run_end h r.minrun - h) = omega arith in
      let at-h = and-fst _ _ (rw hours at e) in
      let (x, n, t) = any-mem (λ (e : ScheduleRow). same_schedule r e && eqb e.hour h) (own u rows) at-h in
      (x, row-scheduled h (own u rows) {r = x} n (eqb-true x.hour h (and-snd (same_schedule r x) (eqb x.hour h) t)))

  pub has-schedule :
      h ≤ last_hour → All PermittedSchedule rows → unscheduled us rows ≡ None → lacking h us rows ≡ None →
      (e : ScheduleRow) × Among e (schedules h (own u rows))
  has-schedule hour permitted scheduled whole =
      let (r, n, of-u) = has-row scheduled in
      first-hour r hour (all-mem permitted n).some-minrun (has-run whole r (row-own u rows n of-u))
