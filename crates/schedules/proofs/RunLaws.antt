-- Rule 9 by steps is rule 9, and a unit's own rows are as good as all. Assumes nothing.
use Rattle.std.specs.Prelude.{None, Some}
use Prim.Native.Nat.{ℕ, zero, suc, ◌+◌, ◌-◌, ◌≤◌, ◌<◌}
use mathlib.Core.Path.{◌≡◌, refl, sym, ◌∙◌}
use mathlib.Core.Logic.{◌⊎◌, inl, inr, ⊎_elim}
use mathlib.Core.Bool.{Bool, true, false, cond, not, ◌&&◌, ◌||◌, and-false}
use mathlib.Core.List.Memᴰ
use mathlib.Core.List.{List, [], ◌∷◌, Memᴰ}
use native.Mathlib.Omega.{arith}
use native.Mathlib.Numerals.{add-one}
use lib.Dec.{eqb, leb, ltb}
use lib.ListN.{get_or}
use borrow.Author.Tests.{le-leb, lt-ltb, le-ltb, lt-leb, leb-true, ltb-true, eq-eqb, ne_eqb, eqb-true, not-false, not-true}
use Rattle.base.specs.Search.{any, those, first_at_odds, All}
use Rattle.base.proofs.Elements.{all-mem, any-mem, none-mem, mem-none, all-those, any-agree, any_same}
use Rattle.base.proofs.Searches.{all_drop, all_head}
use Rattle.base.proofs.Tests.{either, eq-or-ne, and-fst, and-snd, or_fst, or_snd}
use Rattle.hours.specs.Hours.{run_end}
use Rattle.tables.specs.Rows.{ScheduleRow}
use Rattle.tables.specs.promises.FlatRows.{schedule_rows}
use Rattle.cells.specs.promises.Views.{schedule_at}
use Rattle.cells.proofs.RowViews.{schedule-next}
use Rattle.links.specs.promises.Links.{most_linked, Linked, Along, schedule_keys, schedule_key}
use Rattle.schedules.specs.promises.Ranges.{Checked}
use Rattle.schedules.specs.promises.Steps.{lacks, is_at, has_hour, goes_on, keeps_on, stops}
use Rattle.schedules.specs.Schedules.{same_schedule, unlike, repeats, second_m, schedule_odds, schedules_at_odds, own}
use Rattle.schedules.specs.Runs.{has_hours, has_run}
use Rattle.links.proofs.LinkLaws.{along-key}

-- rows of one schedule share minrun
Shared : List ScheduleRow → Type 0
Shared rs =
    (r e : ScheduleRow) → Memᴰ r rs → Memᴰ e rs → same_schedule r e ≡ true → r.minrun ≡ e.minrun

module _ (r e : ScheduleRow) (same : same_schedule r e ≡ true) where
  same-unit : r.unit ≡ e.unit
  unfolding same_schedule
  same-unit = eqb-true r.unit e.unit (and-fst (eqb r.unit e.unit) (eqb r.schedule e.schedule) same)

  same-schedule : r.schedule ≡ e.schedule
  unfolding same_schedule
  same-schedule = eqb-true r.schedule e.schedule (and-snd (eqb r.unit e.unit) (eqb r.schedule e.schedule) same)

  -- a row that isn't at odds with one of its schedule shares its minrun
  agreed : schedule_odds r e ≡ false → r.minrun ≡ e.minrun
  unfolding schedule_odds unlike
  agreed f =
      let alike = not-false _ (simp same at (or_fst (unlike r e) (repeats r e) (or_fst (unlike r e || repeats r e) (second_m r e) f))) in
      eqb-true r.minrun e.minrun (and-snd (eqb r.kind e.kind && eqb r.startup e.startup) (eqb r.minrun e.minrun) alike)

  same_back : same_schedule e r ≡ true
  unfolding same_schedule
  same_back = simp (eq-eqb e.unit r.unit (sym same-unit), eq-eqb e.schedule r.schedule (sym same-schedule))

-- one row more, at odds with none of those that share
shared-more : (x : ScheduleRow) (seen : List ScheduleRow) → Shared seen → any (schedule_odds x) seen ≡ false → Shared (x ∷ seen)
unfolding Shared
shared-more x seen s f r e m n same = go (Memᴰ.cases_cons m) (Memᴰ.cases_cons n)
  where
    go : (r ≡ x) ⊎ Memᴰ r seen → (e ≡ x) ⊎ Memᴰ e seen → r.minrun ≡ e.minrun
    go (inl is) (inl is-e) = rw (is, is-e)
    go (inl is) (inr n) = agreed r e same (rw is (none-mem (schedule_odds x) seen e f n))
    go (inr m) (inl is-e) = sym (agreed e r (same_back r e same) (rw is-e (none-mem (schedule_odds x) seen r f m)))
    go (inr m) (inr n) = s r e m n same

-- a row that was seen or comes, seen once one has come
moved : {r x : ScheduleRow} {seen xs : List ScheduleRow} →
    Memᴰ r seen ⊎ Memᴰ r (x ∷ xs) → Memᴰ r (x ∷ seen) ⊎ Memᴰ r xs
moved (inl m) = inl (Memᴰ.tail m)
moved (inr m) = ⊎_elim (λ e. inl (Memᴰ.head e)) inr (Memᴰ.cases_cons m)

none-some : {A : Type 0} {x : A} {B : Type 0} → Some x ≡ None → B
none-some e = let z : ◌≡◌ {A = ℕ} 0 1 = cc in absurd (omega arith)

-- the two parts of a search for rows at odds that finds none
module _ (x : ScheduleRow) (seen xs : List ScheduleRow) (k : ℕ) (f : first_at_odds schedule_odds seen k (x ∷ xs) ≡ None) where
  odds-here : any (schedule_odds x) seen ≡ false
  unfolding first_at_odds
  odds-here = go (any (schedule_odds x) seen) f
    where
      go : (t : Bool) → cond t (Some k) (first_at_odds schedule_odds (x ∷ seen) (suc k) xs) ≡ None → t ≡ false
      go true e = none-some e
      go false e = refl

  odds-later : first_at_odds schedule_odds (x ∷ seen) (suc k) xs ≡ None
  unfolding first_at_odds
  odds-later = rw odds-here at f

shared-all :
    (seen xs : List ScheduleRow) (k : ℕ) → Shared seen → first_at_odds schedule_odds seen k xs ≡ None →
    (r e : ScheduleRow) → Memᴰ r seen ⊎ Memᴰ r xs → Memᴰ e seen ⊎ Memᴰ e xs →
    same_schedule r e ≡ true → r.minrun ≡ e.minrun
unfolding Shared
shared-all seen [] k s f r e (inl m) (inl n) same = s r e m n same
shared-all seen [] k s f r e (inl m) (inr n) same = absurd (Memᴰ.not-nil n)
shared-all seen [] k s f r e (inr m) n same = absurd (Memᴰ.not-nil m)
shared-all seen (x ∷ xs) k s f r e m n same =
    shared-all (x ∷ seen) xs (suc k) (shared-more x seen s (odds-here x seen xs k f)) (odds-later x seen xs k f) r e (moved m) (moved n) same

shared : (rs : List ScheduleRow) → schedules_at_odds rs ≡ None → Shared rs
unfolding Shared schedules_at_odds
shared rs f r e m n same =
    shared-all [] rs 1 (λ (a b : ScheduleRow) (i : Memᴰ a []) (j : Memᴰ b []) (t : _). absurd (Memᴰ.not-nil i)) f r e (inr m) (inr n) same

-- rows picked by a test are at odds with none, where all are
module _ (p : ScheduleRow → Bool) where
  none-those : (q : ScheduleRow → Bool) (xs : List ScheduleRow) → any q xs ≡ false → any q (those p xs) ≡ false
  unfolding any those
  none-those q [] f = refl
  none-those q (x ∷ xs) f = go (p x) (none-those q xs (or_snd (q x) (any q xs) f))
    where
      go : (t : Bool) → any q (those p xs) ≡ false → any q (cond t (x ∷ those p xs) (those p xs)) ≡ false
      go true b = rw (or_fst (q x) (any q xs) f) b
      go false b = b

  odds-those :
      (seen xs : List ScheduleRow) (k j : ℕ) → first_at_odds schedule_odds seen k xs ≡ None →
      first_at_odds schedule_odds (those p seen) j (those p xs) ≡ None
  unfolding first_at_odds those
  odds-those seen [] k j f = refl
  odds-those seen (x ∷ xs) k j f = go (p x) (λ (i : ℕ). odds-those (x ∷ seen) xs (suc k) i (odds-later x seen xs k f))
    where
      go :
          (t : Bool) →
          ((i : ℕ) → first_at_odds schedule_odds (cond t (x ∷ those p seen) (those p seen)) i (those p xs) ≡ None) →
          first_at_odds schedule_odds (those p seen) j (cond t (x ∷ those p xs) (those p xs)) ≡ None
      go true below = rw (none-those (schedule_odds x) seen (odds-here x seen xs k f)) (below (suc j))
      go false below = below j

checked-own : {h : ℕ} {rs : List ScheduleRow} (u : ℕ) → Checked h rs → Checked h (own u rs)
unfolding own schedules_at_odds those
checked-own {h} {rs} u c =
    record {
      hour = c.hour;
      ranges = all-those (λ (r : ScheduleRow). eqb r.unit u) c.ranges;
      agree = odds-those (λ (r : ScheduleRow). eqb r.unit u) [] rs 1 1 c.agree;
    }

-- the schedule of a row, by another of its rows
same-hours : (r x : ScheduleRow) (k : ℕ) (rs : List ScheduleRow) → same_schedule r x ≡ true → has_hour r k rs ≡ has_hour x k rs
unfolding is_at same_schedule
same-hours r x k rs same =
    any_same (is_at r k) (is_at x k) rs (λ (e : ScheduleRow). rw (same-unit r x same, same-schedule r x same))

module _ (h : ℕ) (rs : List ScheduleRow) (c : Checked h rs) where
  run-some : (r : ScheduleRow) → Memᴰ r rs → h ≤ run_end h r.minrun
  unfolding run_end
  run-some r m = omega (arith, c.hour, (all-mem c.ranges m).some-minrun)

  run-hours : (r : ScheduleRow) → Memᴰ r rs → suc (run_end h r.minrun) - h ≡ suc (run_end h r.minrun - h)
  run-hours r m = omega (arith, run-some r m)

  -- a run that has come to hour k goes on to the next, where every row keeps the steps
  module _ (steps : (r : ScheduleRow) → Memᴰ r rs → keeps_on h rs r ≡ true) (r : ScheduleRow) (m : Memᴰ r rs) where
    behind : (x : ScheduleRow) → Memᴰ x rs → h ≤ x.hour → x.hour < run_end h x.minrun → has_hour x (x.hour + 1) rs ≡ true
    unfolding keeps_on goes_on
    behind x n from below =
        simp (le-leb h x.hour from, lt-ltb x.hour (run_end h x.minrun) below) at (and-snd (has_hour x h rs) (goes_on h rs x) (steps x n))

    next-hour : (k : ℕ) → h ≤ k → k < run_end h r.minrun → has_hour r k rs ≡ true → has_hour r (suc k) rs ≡ true
    next-hour k from below e = same-hours r x (suc k) rs same ∙ (rw (at, add-one k) at on)
      where
        found : (x : ScheduleRow) × Memᴰ x rs × (is_at r k x ≡ true)
        found = any-mem (is_at r k) rs e

        x : ScheduleRow
        x = found.0

        same : same_schedule r x ≡ true
        same = unfold is_at in and-fst (same_schedule r x) (eqb x.hour k) found.2

        at : x.hour ≡ k
        at = unfold is_at in eqb-true x.hour k (and-snd (same_schedule r x) (eqb x.hour k) found.2)

        as_long : r.minrun ≡ x.minrun
        as_long = unfold Shared in shared rs c.agree r x m found.1 same

        on : has_hour x (x.hour + 1) rs ≡ true
        on = behind x found.1 (rw at from) (rw (at, ← as_long) below)

    run-from : (k n : ℕ) → h ≤ k → k + n ≡ run_end h r.minrun → has_hour r k rs ≡ true → has_hours r k (suc n) rs ≡ true
    unfolding has_hours is_at
    run-from k zero from end e = rw e
    run-from k (suc n) from end e =
        rw e (run-from (suc k) n (omega arith) (omega arith) (next-hour k from (omega arith) e))

    has-run : has_run h rs r ≡ true
    unfolding has_run keeps_on
    has-run =
        rw (run-hours r m)
        (run-from h (run_end h r.minrun - h) (omega arith) (omega (arith, run-some r m)) (and-fst (has_hour r h rs) (goes_on h rs r) (steps r m)))

-- a row for each hour of a run
hours-at :
    (r : ScheduleRow) (rs : List ScheduleRow) (k n j : ℕ) → has_hours r k n rs ≡ true → k ≤ j → j < k + n → has_hour r j rs ≡ true
unfolding has_hours is_at
hours-at r rs k zero j e from below = absurd (omega arith)
hours-at r rs k (suc n) j e from below =
    ⊎_elim here (later (λ (past : suc k ≤ j). hours-at r rs (suc k) n j (and-snd (has_hour r k rs) (has_hours r (suc k) n rs) e) past (omega arith)))
    (eq-or-ne j k)
  where
    here : j ≡ k → has_hour r j rs ≡ true
    here is = rw is (and-fst (has_hour r k rs) (has_hours r (suc k) n rs) e)

    later : (suc k ≤ j → has_hour r j rs ≡ true) → (j ≡ k → ⊥) → has_hour r j rs ≡ true
    later beyond other = beyond (omega arith)

module _ (h : ℕ) (rs : List ScheduleRow) (c : Checked h rs) where
  -- a row keeps the steps where its schedule has its whole run
  keeps-steps : (r : ScheduleRow) → Memᴰ r rs → has_run h rs r ≡ true → keeps_on h rs r ≡ true
  unfolding has_run keeps_on
  keeps-steps r m e = rw (hour h (omega arith) (omega (arith, run-some h rs c r m))) going
    where
      end : ℕ
      end = run_end h r.minrun

      hour : (j : ℕ) → h ≤ j → j ≤ end → has_hour r j rs ≡ true
      hour j from upto = hours-at r rs h (suc end - h) j e from (omega (arith, run-some h rs c r m))

      inside : (leb h r.hour && ltb r.hour end) ≡ true → goes_on h rs r ≡ true
      inside t =
          let from = leb-true h r.hour (and-fst (leb h r.hour) (ltb r.hour end) t) in
          let below = ltb-true r.hour end (and-snd (leb h r.hour) (ltb r.hour end) t) in
          unfold goes_on in rw t (hour (r.hour + 1) (omega arith) (omega arith))

      outside : (leb h r.hour && ltb r.hour end) ≡ false → goes_on h rs r ≡ true
      outside t = unfold goes_on in rw t

      going : goes_on h rs r ≡ true
      going = ⊎_elim inside outside (either (leb h r.hour && ltb r.hour end))

  abbrev no_run : ScheduleRow → Bool
  no_run r = not (has_run h rs r)

  abbrev no_steps : ScheduleRow → Bool
  no_steps r = not (keeps_on h rs r)

  -- rule 9 by steps
  lacks-by-steps : lacks h rs ≡ any (λ (r : ScheduleRow). not (keeps_on h rs r)) rs
  lacks-by-steps = any-agree no_run no_steps rs steps run
    where
      steps : any no_run rs ≡ false → any no_steps rs ≡ false
      steps e =
          mem-none no_steps rs
          (λ (r : ScheduleRow) (m : Memᴰ r rs). rw (keeps-steps r m (not-false (has_run h rs r) (none-mem no_run rs r e m))))

      run : any no_steps rs ≡ false → any no_run rs ≡ false
      run e =
          mem-none no_run rs
          (λ (r : ScheduleRow) (m : Memᴰ r rs). rw (has-run h rs c (λ (x : ScheduleRow) (n : Memᴰ x rs). not-false (keeps_on h rs x) (none-mem no_steps rs x e n)) r m))

-- a row beside another, by the tests in their order
module _ (r e : ScheduleRow) (k : ℕ) where
  pub at-units : (r.unit ≡ e.unit → ⊥) → false ≡ is_at r k e
  unfolding same_schedule is_at
  at-units u = simp (ne_eqb r.unit e.unit u)

  module _ (u : r.unit ≡ e.unit) where
    pub at-schedules : (r.schedule ≡ e.schedule → ⊥) → false ≡ is_at r k e
    unfolding same_schedule is_at
    at-schedules s = simp (eq-eqb r.unit e.unit u, ne_eqb r.schedule e.schedule s)

    pub at-hours : (x : ℕ) → r.schedule ≡ e.schedule → x ≡ e.hour → eqb x k ≡ is_at r k e
    unfolding same_schedule is_at
    at-hours x s is = rw is (simp (eq-eqb r.unit e.unit u, eq-eqb r.schedule e.schedule s))

-- those of some elements that pass a test, searched by another
any-those : {A : Type 0} (p q : A → Bool) (xs : List A) → any q (those p xs) ≡ any (λ (x : A). p x && q x) xs
unfolding any those
any-those p q [] = refl
any-those p q (x ∷ xs) = go (p x) (any-those p q xs)
  where
    go :
        (t : Bool) → any q (those p xs) ≡ any (λ (y : _). p y && q y) xs →
        any q (cond t (x ∷ those p xs) (those p xs)) ≡ ((t && q x) || any (λ (y : _). p y && q y) xs)
    go true e = rw e
    go false e = e

-- the rows of a unit are as good as all where a row of it is asked for
module _ (u : ℕ) (rs : List ScheduleRow) (r : ScheduleRow) (is : r.unit ≡ u) where
  hours-own : (k : ℕ) → has_hour r k (own u rs) ≡ has_hour r k rs
  unfolding own
  hours-own k =
      any-those (λ (e : ScheduleRow). eqb e.unit u) (is_at r k) rs
      ∙ any_same (λ (e : ScheduleRow). eqb e.unit u && is_at r k e) (is_at r k) rs only
    where
      same : (e : ScheduleRow) → e.unit ≡ u → (eqb e.unit u && is_at r k e) ≡ is_at r k e
      same e f = rw (eq-eqb e.unit u f)

      other : (e : ScheduleRow) → (e.unit ≡ u → ⊥) → (eqb e.unit u && is_at r k e) ≡ is_at r k e
      other e f = rw (ne_eqb e.unit u f) (at-units r e k (λ (s : r.unit ≡ e.unit). f (sym s ∙ is)))

      only : (e : ScheduleRow) → (eqb e.unit u && is_at r k e) ≡ is_at r k e
      only e = ⊎_elim (same e) (other e) (eq-or-ne e.unit u)

  runs_own : (h : ℕ) → keeps_on h (own u rs) r ≡ keeps_on h rs r
  unfolding keeps_on goes_on
  runs_own h = rw (hours-own h, hours-own (r.hour + 1))

-- rule 9 of a unit by the steps of its rows
pub lacks-by-stops : (u h : ℕ) (rs : List ScheduleRow) → Checked h rs → lacks h (own u rs) ≡ any (stops u h rs) rs
unfolding stops
lacks-by-stops u h rs c =
    lacks-by-steps h (own u rs) (checked-own u c)
    ∙ picked
    ∙ any_same (λ (r : ScheduleRow). is_own r && no_steps r) (stops u h rs) rs each
  where
    is_own : ScheduleRow → Bool
    is_own r = eqb r.unit u

    no_steps : ScheduleRow → Bool
    no_steps r = not (keeps_on h (own u rs) r)

    picked : any no_steps (own u rs) ≡ any (λ (r : ScheduleRow). is_own r && no_steps r) rs
    picked = unfold own in any-those is_own no_steps rs

    each : (r : ScheduleRow) → (is_own r && no_steps r) ≡ stops u h rs r
    each r =
        ⊎_elim
        (λ (e : r.unit ≡ u). rw (runs_own u rs r e h))
        (λ (e : r.unit ≡ u → ⊥). rw (ne_eqb r.unit u e))
        (eq-or-ne r.unit u)

-- the steps of a row's schedule, by the tests in their order; t says whether it has a row at the study hour, y
module _ (h : ℕ) (rs : List ScheduleRow) (r : ScheduleRow) (y : ℕ) (t : Bool) (from-h : y ≡ h) (said : t ≡ has_hour r y rs) where
  is : t ≡ has_hour r h rs
  is = rw from-h at said

  pub runs-not : not t ≡ true → false ≡ keeps_on h rs r
  unfolding keeps_on
  runs-not f = rw (← is, not-true t f)

  module _ (starts : not t ≡ false) where
    -- row r is before the run
    pub runs-before : r.hour < h → true ≡ keeps_on h rs r
    unfolding keeps_on goes_on
    runs-before f = rw (← is, not-false t starts, lt-leb h r.hour f)

    -- or at its end, or behind
    pub runs-over : run_end h r.minrun ≤ r.hour → true ≡ keeps_on h rs r
    unfolding keeps_on goes_on
    runs-over f = rw (← is, not-false t starts, le-ltb r.hour (run_end h r.minrun) f) (simp and-false)

    -- or inside; u says whether the schedule has a row for the next hour, z
    pub runs-inside :
        (u : Bool) (z : ℕ) → h ≤ r.hour → r.hour < run_end h r.minrun → z ≡ r.hour + 1 → u ≡ has_hour r z rs →
        u ≡ keeps_on h rs r
    unfolding keeps_on goes_on
    runs-inside u z from below next on =
        rw (← is, not-false t starts, le-leb h r.hour from, lt-ltb r.hour (run_end h r.minrun) below, ← next) on

-- what all rows have, the row at a place has
pub row_has : {P : ScheduleRow → Type 0} (n : ℕ) (cells : List ℕ) (k : ℕ) → All P (schedule_rows n cells) → k < n → P (schedule_at cells k)
row_has n cells k a h = all_head (rw (schedule-next n cells k h) at (all_drop k a))

-- whether a row is the unit's and doesn't keep the steps, by the tests in their order
module _ (u h : ℕ) (rs : List ScheduleRow) (r : ScheduleRow) where
  pub stops-unit : stops u h rs r ≡ true → eqb r.unit u ≡ true
  unfolding stops
  stops-unit e = and-fst (eqb r.unit u) (not (keeps_on h rs r)) e

  pub stops-other : (r.unit ≡ u → ⊥) → false ≡ stops u h rs r
  unfolding stops
  stops-other e = rw (ne_eqb r.unit u e)

  pub stops-own : (t : Bool) → r.unit ≡ u → t ≡ keeps_on h rs r → not t ≡ stops u h rs r
  unfolding stops
  stops-own t e is = rw (is, eq-eqb r.unit u e)

-- a search of all rows for some of the schedule of row k, whose key is x
pub along-schedule :
    (cells : List ℕ) (n k hour x : ℕ) (links : List ℕ) → Linked (schedule_key cells) schedule_keys n links → x ≡ schedule_key cells k →
    x < schedule_keys → Along (λ (j : ℕ). is_at (schedule_at cells k) hour (schedule_at cells j)) n links (get_or links (most_linked + x) 0)
along-schedule cells n k hour x links l is one = along-key (λ (j : ℕ). is_at (schedule_at cells k) hour (schedule_at cells j)) x l one alike
  where
    alike : (j : ℕ) → is_at (schedule_at cells k) hour (schedule_at cells j) ≡ true → schedule_key cells j ≡ x
    alike j e =
        let same : same_schedule (schedule_at cells k) (schedule_at cells j) ≡ true = unfold is_at in and-fst _ _ e in
        rw (is, same-unit (schedule_at cells k) (schedule_at cells j) same, same-schedule (schedule_at cells k) (schedule_at cells j) same)
