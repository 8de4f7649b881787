-- Laws of a release: its refusals, and what it makes of a day, said by who runs. Assumes nothing.
use Rattle.std.specs.Prelude.{None, Some}
use Prim.Native.Nat.{ℕ, ◌≤◌, ◌<◌}
use mathlib.Core.Path.{◌≡◌, refl}
use mathlib.Core.Logic.{◌≢◌}
use mathlib.Core.Bool.{Bool, true, false, cond, not, ◌||◌}
use mathlib.Core.List.{List, [], ◌∷◌, Memᴰ as Among}
use native.Mathlib.Omega.{arith}
use lib.Dec.{eqb}
use lib.ListN.{length}
use borrow.Author.Tests.{eqb-false, ne_eqb, not-true}
use Rattle.base.specs.Search.{any, those, first_of}
use Rattle.base.proofs.Elements.{mem-those, those-mem}
use Rattle.base.proofs.Searches.{first-of-none}
use Rattle.base.proofs.Tests.{false-true}
use Rattle.tables.specs.declared.files.Refusal.{Refusal}
use Rattle.tables.specs.Refusals.{bare_refusal, unless, told}
use Rattle.outcome.specs.Day.{RunningUnit, DayView, most_running, day_formed, runs, without, release_refusal, released}
use Rattle.outcome.proofs.DayLaws.{InOrder, none_left, one_more, formed, formed-told, of}
use Rattle.outcome.proofs.Numbered.{told-released}

-- Document 01, "The day": what a release that isn't refused makes of a day, by who runs before and after it.
pub record Frees (d : DayView) (u : ℕ) (after : DayView) : Type 0 where
  -- "Release takes a unit out": none of that number runs
  pub gone : (x : RunningUnit) → Among x after.running → x.unit ≢ u
  -- "and changes nothing else": every other running unit stays as it was, nobody else runs, and the hour is the same
  pub kept : (x : RunningUnit) → Among x d.running → x.unit ≢ u → Among x after.running
  pub nobody-else : (x : RunningUnit) → Among x after.running → Among x d.running
  pub same-hour : after.hour ≡ d.hour
  -- "its place can be used again": fewer run than before
  pub place-free : length after.running < length d.running
  -- not "a day with more than 64 units, units not strictly rising, or a number outside its column's range"
  pub well-formed : day_formed after ≡ true

-- a rule that refuses nothing is kept
pub unless-none : (t : Bool) (n : ℕ) → unless t n ≡ None → t ≡ true
unfolding unless
unless-none true n e = refl
unless-none false n e = let z : ◌≡◌ {A = ℕ} 0 1 = cc in absurd (omega arith)

-- the outcomes: 24, then 23, else nothing is refused
module _ (d : DayView) (u : ℕ) where
  pub is-24 : day_formed d ≡ false → release_refusal d u ≡ Some (bare_refusal 24)
  unfolding release_refusal unless first_of
  is-24 e = rw e

  module _ (f : day_formed d ≡ true) where
    pub is-23 : runs u d.running ≡ false → release_refusal d u ≡ Some (bare_refusal 23)
    unfolding release_refusal unless first_of
    is-23 e = rw (f, e)

    pub is-done : runs u d.running ≡ true → release_refusal d u ≡ None
    unfolding release_refusal unless first_of
    is-done e = rw (f, e)

-- the units of other numbers
abbrev pub others : ℕ → List RunningUnit → List RunningUnit
others u rs = those (λ (r : RunningUnit). not (eqb r.unit u)) rs

order-lower : {a b : ℕ} {rs : List RunningUnit} → a < b → InOrder b rs → InOrder a rs
order-lower h none_left = none_left
order-lower {a} h (one_more {r} k e o) =
    let above : a < r.unit = omega arith in
    one_more above e o

others-in-order : {b : ℕ} {rs : List RunningUnit} (u : ℕ) → InOrder b rs → InOrder b (others u rs)
unfolding those
others-in-order u none_left = none_left
others-in-order {b} u (one_more {r} {rs} k e o) = go (eqb r.unit u) (others-in-order u o)
  where
    go : (t : Bool) → InOrder r.unit (others u rs) → InOrder b (cond (not t) (r ∷ others u rs) (others u rs))
    go true p = order-lower k p
    go false p = one_more k e p

others-fewer : (u : ℕ) (rs : List RunningUnit) → length (others u rs) ≤ length rs
unfolding those
others-fewer u [] = omega arith
others-fewer u (r ∷ rs) = go (eqb r.unit u) (others-fewer u rs)
  where
    go : (t : Bool) → length (others u rs) ≤ length rs → length (cond (not t) (r ∷ others u rs) (others u rs)) ≤ length (r ∷ rs)
    go true h = omega arith
    go false h = omega arith

-- its place can be used again
others-less : (u : ℕ) (rs : List RunningUnit) → runs u rs ≡ true → length (others u rs) < length rs
unfolding those runs any
others-less u [] e = false-true e
others-less u (r ∷ rs) e = go (eqb r.unit u) e (others-less u rs)
  where
    go :
        (t : Bool) → (t || any (of u) rs) ≡ true → (any (of u) rs ≡ true → length (others u rs) < length rs) →
        length (cond (not t) (r ∷ others u rs) (others u rs)) < length (r ∷ rs)
    go true f h = omega (arith, others-fewer u rs)
    go false f h = omega (arith, h f)

module _ (d : DayView) (u : ℕ) where
  frees : day_formed d ≡ true → runs u d.running ≡ true → Frees d u (without u d)
  unfolding without
  frees f e =
      let known = formed d f in
      record {
        gone = λ x m. eqb-false x.unit u (not-true (eqb x.unit u) (those-mem other d.running m).1);
        kept = λ x m n. mem-those other m (rw (ne_eqb x.unit u n));
        nobody-else = λ x m. (those-mem other d.running m).0;
        same-hour = refl;
        place-free = others-less u d.running e;
        well-formed =
            formed-told (without u d)
            (record {
              few = omega (arith, others-fewer u d.running, known.few);
              timely = known.timely;
              ordered = others-in-order u known.ordered;
            });
      }
    where
      other : RunningUnit → Bool
      other r = not (eqb r.unit u)

  done-frees : release_refusal d u ≡ None → Frees d u (released d u)
  unfolding released release_refusal
  done-frees e =
      let (formed-kept, later) = first-of-none (unless (day_formed d) 24) _ e in
      let (runs-kept, rest) = first-of-none (unless (runs u d.running) 23) _ later in
      rw e (frees (unless-none (day_formed d) 24 formed-kept) (unless-none (runs u d.running) 23 runs-kept))

  -- an accepted release
  pub release-frees : (told (release_refusal d u)).number ≡ 0 → Frees d u (released d u)
  release-frees e = done-frees (told-released d u e)

  -- it leaves no more running than a day has places
  pub released-few : release_refusal d u ≡ None → length (released d u).running ≤ most_running
  released-few e = (formed (released d u) (done-frees e).well-formed).few

  -- and one that is refused leaves the day that was given
  pub released-same : (x : Refusal) → release_refusal d u ≡ Some x → released d u ≡ d
  unfolding released
  released-same x e = rw e
