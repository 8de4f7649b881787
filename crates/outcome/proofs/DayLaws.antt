-- Laws of the day: running units in order, a unit taken out, choices put in, and who runs then. Assumes nothing.
use Prim.Native.Nat.{ℕ, suc, ◌+◌, ◌≤◌, ◌<◌}
use mathlib.Core.Path.{◌≡◌, refl, sym, ◌∙◌, ap}
use mathlib.Core.Logic.{◌≢◌, ◌⊎◌, inl, inr, ⊎_elim}
use mathlib.Core.Bool.{Bool, true, false, cond, not, ◌&&◌, ◌||◌}
use mathlib.Core.List.Memᴰ.{cases_cons}
use mathlib.Core.List.Memᴰ.{head as first}
use mathlib.Core.List.Memᴰ.{tail as later}
use mathlib.Core.List.{List, [], ◌∷◌, map, Memᴰ as Among}
use native.Mathlib.Omega.{arith}
use lib.Dec.{ltb, leb, eqb}
use lib.ListN.{length}
use borrow.Author.Tests.{ltb-true, lt-ltb, le-ltb, leb-true, le-leb, eqb-false, eq-eqb, ne_eqb}
use Rattle.base.specs.Rising.{among, RisingFrom, end, next}
use Rattle.base.specs.Search.{any, those, All, all_none, all_more}
use Rattle.base.proofs.RisingLaws.{not-among}
use Rattle.base.proofs.Tests.{lt-or-ge, eq-or-ne, false-true, and-fst, and-snd, or_fst, or_snd}
use Rattle.outcome.specs.Day.{RunningUnit, DayView, most_running, hour_in_range, unit_in_range, rising_in_range, day_formed, runs, put, put_all, would_run}
use Rattle.outcome.proofs.DayRanges.{unit-range}

-- the number of a unit
abbrev pub unit : RunningUnit → ℕ
unit r = r.unit

rising-lower : {a b : ℕ} {us : List ℕ} → RisingFrom b us → a < b → RisingFrom a us
rising-lower end h = end
rising-lower {a} (next {x} k o) h =
    let above : a < x = omega arith in
    next above o

-- units in range that strictly rise, all of them above a bound
pub data InOrder : ℕ → List RunningUnit → Type 0 where
  none_left : {b : ℕ} → InOrder b []
  one_more :
      {b : ℕ} {r : RunningUnit} {rs : List RunningUnit} → b < r.unit → unit_in_range r ≡ true → InOrder r.unit rs →
      InOrder b (r ∷ rs)

-- that is what the test finds out
pub in_order : (b : ℕ) (rs : List RunningUnit) → rising_in_range b rs ≡ true → InOrder b rs
unfolding rising_in_range
in_order b [] e = none_left
in_order b (r ∷ rs) e =
    let here = and-fst (ltb b r.unit && unit_in_range r) (rising_in_range r.unit rs) e in
    one_more
    (ltb-true b r.unit (and-fst (ltb b r.unit) (unit_in_range r) here))
    (and-snd (ltb b r.unit) (unit_in_range r) here)
    (in_order r.unit rs (and-snd (ltb b r.unit && unit_in_range r) (rising_in_range r.unit rs) e))

pub order-told : {b : ℕ} {rs : List RunningUnit} → InOrder b rs → rising_in_range b rs ≡ true
unfolding rising_in_range
order-told none_left = refl
order-told (one_more {b} {r} h e o) = rw (lt-ltb b r.unit h, e) (order-told o)

pub order-rising : {b : ℕ} {rs : List RunningUnit} → InOrder b rs → RisingFrom b (map unit rs)
order-rising none_left = end
order-rising (one_more h e o) = next h (order-rising o)

-- what a well-formed day is
pub record Formed (d : DayView) : Type 0 where
  pub few : length d.running ≤ most_running
  pub timely : hour_in_range d.hour ≡ true
  pub ordered : InOrder 0 d.running

pub formed : (d : DayView) → day_formed d ≡ true → Formed d
unfolding day_formed
formed d e =
    let fits = leb (length d.running) most_running in
    let known = and-fst (fits && hour_in_range d.hour) (rising_in_range 0 d.running) e in
    record {
      few = leb-true (length d.running) most_running (and-fst fits (hour_in_range d.hour) known);
      timely = and-snd fits (hour_in_range d.hour) known;
      ordered = in_order 0 d.running (and-snd (fits && hour_in_range d.hour) (rising_in_range 0 d.running) e);
    }

pub formed-told : (d : DayView) → Formed d → day_formed d ≡ true
unfolding day_formed
formed-told d f =
    rw (le-leb (length d.running) most_running f.few, f.timely) (order-told f.ordered)

-- a unit by its number
abbrev pub of : ℕ → RunningUnit → Bool
of u r = eqb r.unit u

-- a number at or below the bound doesn't run
pub not-below : {b : ℕ} (u : ℕ) (rs : List RunningUnit) → u ≤ b → RisingFrom b (map unit rs) → runs u rs ≡ false
unfolding runs any
not-below u [] h end = refl
not-below u (r ∷ rs) h (next k o) = rw (ne_eqb r.unit u (omega arith)) (not-below u rs (omega arith) o)

-- where a unit doesn't run, none is taken out
pub those-all : (u : ℕ) (rs : List RunningUnit) → runs u rs ≡ false → those (λ (r : RunningUnit). not (eqb r.unit u)) rs ≡ rs
unfolding runs any those
those-all u [] e = refl
those-all u (r ∷ rs) e = go (eqb r.unit u) e (those-all u rs)
  where
    others : List RunningUnit
    others = those (λ (r : RunningUnit). not (eqb r.unit u)) rs

    go :
        (t : Bool) → (t || any (of u) rs) ≡ false → (any (of u) rs ≡ false → others ≡ rs) →
        cond (not t) (r ∷ others) others ≡ r ∷ rs
    go true f ih = false-true (sym f)
    go false f ih = ap (λ (l : List RunningUnit). r ∷ l) (ih f)

-- the three ways of putting a unit before, in place of or behind the first
pub put-cases :
    (c r : RunningUnit) (rs : List RunningUnit) (Q : List RunningUnit → Type 0) → (c.unit < r.unit → Q (c ∷ r ∷ rs)) →
    (c.unit ≡ r.unit → Q (c ∷ rs)) → (r.unit < c.unit → Q (r ∷ put c rs)) → Q (put c (r ∷ rs))
unfolding put
put-cases c r rs Q before at behind = ⊎_elim below not_below (lt-or-ge c.unit r.unit)
  where
    below : c.unit < r.unit → Q (put c (r ∷ rs))
    below h = simp (lt-ltb c.unit r.unit h) (before h)

    same : r.unit ≤ c.unit → c.unit ≡ r.unit → Q (put c (r ∷ rs))
    same h e = simp (le-ltb c.unit r.unit h, eq-eqb c.unit r.unit e) (at e)

    above : r.unit ≤ c.unit → (c.unit ≡ r.unit → ⊥) → Q (put c (r ∷ rs))
    above h e = simp (le-ltb c.unit r.unit h, ne_eqb c.unit r.unit e) (behind (omega arith))

    not_below : r.unit ≤ c.unit → Q (put c (r ∷ rs))
    not_below h = ⊎_elim (same h) (above h) (eq-or-ne c.unit r.unit)

-- `put` keeps the order
pub put-in-order :
    {b : ℕ} {rs : List RunningUnit} (c : RunningUnit) → b < c.unit → unit_in_range c ≡ true → InOrder b rs → InOrder b (put c rs)
unfolding put
put-in-order c h e none_left = one_more h e none_left
put-in-order {b} c h e (one_more {r} {rs} k f o) =
    put-cases c r rs (InOrder b)
    (λ below. one_more h e (one_more below f o))
    (λ same. one_more h e (rw same o))
    (λ above. one_more k f (put-in-order c above e o))

pub put-rising :
    {b : ℕ} (c : RunningUnit) (rs : List RunningUnit) → b < c.unit → RisingFrom b (map unit rs) →
    RisingFrom b (map unit (put c rs))
unfolding put
put-rising c [] h end = next h end
put-rising {b} c (r ∷ rs) h (next k o) =
    put-cases c r rs (λ (l : List RunningUnit). RisingFrom b (map unit l))
    (λ below. next h (next below o))
    (λ same. next h (rw same o))
    (λ above. next k (put-rising c rs above o))

-- no unit's number is 0
pub in-range-above : (c : RunningUnit) → unit_in_range c ≡ true → 0 < c.unit
in-range-above c e =
    let whole = sym (unit-range c) ∙ e in
    leb-true 1 c.unit (and-fst (leb 1 c.unit) _ (and-fst _ _ whole))

pub put-all-in-order :
    {rs : List RunningUnit} (cs : List RunningUnit) → All (λ (c : RunningUnit). unit_in_range c ≡ true) cs → InOrder 0 rs →
    InOrder 0 (put_all cs rs)
unfolding put_all
put-all-in-order [] all_none o = o
put-all-in-order {rs = rs} (c ∷ cs) (all_more e a) o = put-all-in-order {rs = put c rs} cs a (put-in-order c (in-range-above c e) e o)

-- which units run once one is put in
pub put-runs : (u : ℕ) (c : RunningUnit) (rs : List RunningUnit) → runs u (put c rs) ≡ (eqb c.unit u || runs u rs)
unfolding runs any put
put-runs u c [] = refl
put-runs u c (r ∷ rs) =
    put-cases c r rs (λ (l : List RunningUnit). any (of u) l ≡ (eqb c.unit u || (eqb r.unit u || any (of u) rs)))
    (λ below. refl)
    (λ same. rw same (twice (eqb r.unit u) (any (of u) rs)))
    (λ above. rw (put-runs u c rs) (swapped (eqb r.unit u) (eqb c.unit u) (any (of u) rs)))
  where
    twice : (a b : Bool) → (a || b) ≡ (a || (a || b))
    twice true b = refl
    twice false b = refl

    swapped : (a b c : Bool) → (a || (b || c)) ≡ (b || (a || c))
    swapped true true c = refl
    swapped true false c = refl
    swapped false b c = refl

-- one more unit where it didn't run, and as many where it did
pub put-length :
    {b : ℕ} (c : RunningUnit) (rs : List RunningUnit) → RisingFrom b (map unit rs) →
    length (put c rs) ≡ cond (runs c.unit rs) (length rs) (suc (length rs))
unfolding runs any put
put-length c [] end = refl
put-length c (r ∷ rs) (next k o) =
    put-cases c r rs
    (λ (l : List RunningUnit).
    length l ≡ cond (eqb r.unit c.unit || any (of c.unit) rs) (suc (length rs)) (suc (suc (length rs))))
    (λ below. rw (ne_eqb r.unit c.unit (omega arith), not-below c.unit rs (omega arith) o))
    (λ same. rw (eq-eqb r.unit c.unit (sym same)))
    (λ above. rw (ne_eqb r.unit c.unit (omega arith)) (ap suc (put-length c rs o) ∙ go (any (of c.unit) rs) (length rs)))
  where
    go : (t : Bool) (n : ℕ) → suc (cond t n (suc n)) ≡ cond t (suc n) (suc (suc n))
    go true n = refl
    go false n = refl

-- Choices that strictly rise, put in one after the other.

-- a unit below all choices stays first
pub put-all-above :
    {r : RunningUnit} (cs : List RunningUnit) (rs : List RunningUnit) → RisingFrom r.unit (map unit cs) →
    put_all cs (r ∷ rs) ≡ r ∷ put_all cs rs
unfolding put_all
put-all-above [] rs end = refl
put-all-above {r} (c ∷ cs) rs (next h o) = rw (behind) (put-all-above cs (put c rs) (lower h o))
  where
    behind : put c (r ∷ rs) ≡ r ∷ put c rs
    behind =
        put-cases c r rs (λ (l : List RunningUnit). l ≡ r ∷ put c rs)
        (λ below. absurd (omega arith))
        (λ same. absurd (omega arith))
        (λ above. refl)

    lower : r.unit < c.unit → RisingFrom c.unit (map unit cs) → RisingFrom r.unit (map unit cs)
    lower k p = rising-lower p k

-- the first choice comes before the first that runs, in its place, or behind it
module _ (c r : RunningUnit) (cs rs : List RunningUnit) (o : RisingFrom c.unit (map unit cs)) where
  pub merge-before : c.unit < r.unit → put_all (c ∷ cs) (r ∷ rs) ≡ c ∷ put_all cs (r ∷ rs)
  unfolding put_all put
  merge-before h = rw (lt-ltb c.unit r.unit h) (put-all-above cs (r ∷ rs) o)

  pub merge-at : c.unit ≡ r.unit → put_all (c ∷ cs) (r ∷ rs) ≡ c ∷ put_all cs rs
  unfolding put_all put
  merge-at e = rw (le-ltb c.unit r.unit (omega arith), eq-eqb c.unit r.unit e) (put-all-above cs rs o)

  pub merge-behind : r.unit < c.unit → put_all (c ∷ cs) (r ∷ rs) ≡ r ∷ put_all (c ∷ cs) rs
  merge-behind h = put-all-above (c ∷ cs) rs (next h o)

pub merge-alone :
    (c : RunningUnit) (cs : List RunningUnit) → RisingFrom c.unit (map unit cs) → put_all (c ∷ cs) [] ≡ c ∷ put_all cs []
unfolding put_all put
merge-alone c cs o = put-all-above cs [] o

-- a unit that is put in changes nothing of which of the higher ones are new
new-alike :
    (c : RunningUnit) (rs : List RunningUnit) (b : ℕ) {us : List ℕ} → c.unit ≤ b → RisingFrom b us →
    those (λ (u : ℕ). not (runs u (put c rs))) us ≡ those (λ (u : ℕ). not (runs u rs)) us
unfolding those
new-alike c rs b h end = refl
new-alike c rs b h (next {x = u} {xs = us} k o) =
    let other : runs u (put c rs) ≡ runs u rs = put-runs u c rs ∙ rw (ne_eqb c.unit u (omega arith)) in
    let others : c.unit ≤ u = omega arith in
    rw (other, new-alike c rs u others o)

-- as many run as the union has
pub put-all-length :
    {b : ℕ} (cs : List RunningUnit) (rs : List RunningUnit) → RisingFrom b (map unit cs) → RisingFrom 0 (map unit rs) →
    length (put_all cs rs) ≡ would_run (map unit cs) rs
unfolding put_all would_run those
put-all-length [] rs end o = omega arith
put-all-length (c ∷ cs) rs (next h p) o =
    put-all-length cs (put c rs) p (put-rising c rs (omega arith) o)
    ∙ rw (put-length c rs o, new-alike c rs c.unit (omega arith) p) (go (runs c.unit rs) (length rs) _)
  where
    go : (t : Bool) (m : ℕ) (us : List ℕ) → cond t m (suc m) + length us ≡ m + length (cond (not t) (c.unit ∷ us) us)
    go true m us = refl
    go false m us = omega arith

-- Who runs once one is put in: that one, those of other units, and nobody else.

put-there : (c : RunningUnit) (rs : List RunningUnit) → Among c (put c rs)
unfolding put
put-there c [] = first refl
put-there c (r ∷ rs) =
    put-cases c r rs (Among c) (λ below. first refl) (λ same. first refl) (λ above. later (put-there c rs))

put-stays : {x : RunningUnit} {rs : List RunningUnit} (c : RunningUnit) → Among x rs → x.unit ≢ c.unit → Among x (put c rs)
put-stays {x} c (first {x = r} {xs = rs} e) n =
    put-cases c r rs (Among x)
    (λ below. later (first e))
    (λ same. absurd (n (ap unit e ∙ sym same)))
    (λ above. first e)
put-stays {x} c (later {x = r} {xs = rs} m) n =
    put-cases c r rs (Among x) (λ below. later (later m)) (λ same. later m) (λ above. later (put-stays c m n))

-- each is above the bound
above-bound : {x : RunningUnit} {b : ℕ} {rs : List RunningUnit} → Among x rs → RisingFrom b (map unit rs) → b < x.unit
above-bound (first e) (next h o) = rw e h
above-bound (later m) (next h o) = omega (arith, h, above-bound m o)

-- the one that is put in, or another unit that ran
abbrev PutOrOther : RunningUnit → List RunningUnit → RunningUnit → Type 0
PutOrOther c rs x = (x ≡ c) ⊎ (Among x rs × (x.unit ≢ c.unit))

put_only :
    {b : ℕ} {x : RunningUnit} (c : RunningUnit) (rs : List RunningUnit) → RisingFrom b (map unit rs) → Among x (put c rs) →
    PutOrOther c rs x
unfolding put
put_only c [] end m = ⊎_elim inl (λ n. elim n [ ]) (cases_cons m)
put_only {x} c (r ∷ rs) (next k o) m =
    put-cases c r rs (λ (l : List RunningUnit). Among x l → PutOrOther c (r ∷ rs) x)
    (λ below l. ⊎_elim inl (λ n. inr (n, different (above-bound n (next below o)))) (cases_cons l))
    (λ same l. ⊎_elim inl (λ n. inr (later n, different (above-bound n (rw same o)))) (cases_cons l))
    (λ above l. ⊎_elim (λ e. inr (first e, lower e above)) (λ n. further (put_only c rs o n)) (cases_cons l))
    m
  where
    different : c.unit < x.unit → x.unit ≢ c.unit
    different h e = omega arith

    lower : x ≡ r → r.unit < c.unit → x.unit ≢ c.unit
    lower e h f = omega (arith, ap unit e)

    further : PutOrOther c rs x → PutOrOther c (r ∷ rs) x
    further = ⊎_elim inl (λ n. inr (later n.0, n.1))

-- and once choices that strictly rise are put in: those, whoever ran of other units, and nobody else
pub put-all-stays :
    {x : RunningUnit} {rs : List RunningUnit} (cs : List RunningUnit) → Among x rs → among x.unit (map unit cs) ≡ false →
    Among x (put_all cs rs)
unfolding put_all among
put-all-stays [] m e = m
put-all-stays {x = x} {rs = rs} (c ∷ cs) m e =
    let here = eqb x.unit c.unit in
    let there = among x.unit (map unit cs) in
    put-all-stays {rs = put c rs} cs (put-stays c m (eqb-false x.unit c.unit (or_fst here there e))) (or_snd here there e)

pub put-all-there :
    {c : RunningUnit} {b : ℕ} {cs : List RunningUnit} (rs : List RunningUnit) → Among c cs → RisingFrom b (map unit cs) →
    Among c (put_all cs rs)
unfolding put_all
put-all-there rs (first {x} {xs} e) (next h o) =
    rw e (put-all-stays xs (put-there x rs) (not-among x.unit (omega arith) o))
put-all-there rs (later {x} m) (next h o) = put-all-there (put x rs) m o

-- one of the choices, or one of another unit that ran
abbrev ChosenOrOther : List RunningUnit → List RunningUnit → RunningUnit → Type 0
ChosenOrOther cs rs x = Among x cs ⊎ (Among x rs × (among x.unit (map unit cs) ≡ false))

pub put-all-only :
    {b : ℕ} {x : RunningUnit} (cs rs : List RunningUnit) → RisingFrom b (map unit cs) → RisingFrom 0 (map unit rs) →
    Among x (put_all cs rs) → ChosenOrOther cs rs x
unfolding put_all among
put-all-only [] rs end o m = inr (m, refl)
put-all-only {x} (c ∷ cs) rs (next h p) o m =
    let risen = put-rising c rs (omega arith) o in
    ⊎_elim (λ n. inl (later n)) (λ n. among-put (put_only c rs o n.0) n.1) (put-all-only cs (put c rs) p risen m)
  where
    among-put : PutOrOther c rs x → among x.unit (map unit cs) ≡ false → ChosenOrOther (c ∷ cs) rs x
    among-put is e = ⊎_elim (λ s. inl (first s)) (λ s. inr (s.0, rw (ne_eqb x.unit c.unit s.1) e)) is
