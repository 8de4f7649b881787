-- Laws of places: the search for a unit, and the places that move forward where one is taken out. Assumes nothing.
use Prim.Native.Nat.{ℕ, zero, suc, ◌+◌, ◌-◌, ◌≤◌, ◌<◌}
use mathlib.Core.Path.{◌≡◌, refl, sym, ◌∙◌, ap}
use mathlib.Core.Bool.{Bool, true, false, cond, not, ◌||◌}
use mathlib.Core.List.{List, [], ◌∷◌, ◌++◌, map}
use native.Mathlib.Numerals.{add-one}
use native.Mathlib.Omega.{arith}
use native.Mathlib.Nat.{le_of_suc-le-suc, not-suc-le-zero}
use lib.Dec.{eqb, ltb}
use lib.ListN.{length, get_or, take, drop}
use lib.Seq.{length-take-le, paste, take-paste, length-paste}
use Rattle.std.proofs.Common.{length-drop}
use Rattle.std.specs.Prelude.{Option, Some, None}
use Rattle.std.specs.List.{position_or_len, copy_within}
use Rattle.std.proofs.lemmas.List.{take-take, drop-take}
use Rattle.std.proofs.lemmas.List.Sums.{position_or_len_is}
use borrow.Author.Tests.{eqb-true, eq-eqb, ne_eqb, lt-ltb, le-ltb, ltb-true, ltb-false}
use Rattle.base.specs.Search.{any, those}
use Rattle.base.specs.promises.Counting.{leading}
use Rattle.outcome.specs.Day.{RunningUnit, runs}
use Rattle.outcome.proofs.DayLaws.{InOrder, none_left, one_more, order-rising, not-below, those-all}
use Rattle.running.specs.promises.Places.{unit_place, place_in, removed}
use Rattle.running.specs.View.{unit_of, first_units}
use Rattle.running.specs.declared.units.Running.{Running}
use Rattle.running.proofs.ViewLaws.{unused, first-map}

-- the first place whose unit has the number is the unit's place
place_first : (u : ℕ) (rs : List Running) → position_or_len (λ (r : Running). eqb r.unit u) rs ≡ unit_place u (map unit_of rs)
unfolding unit_place leading
place_first u [] = refl
place_first u (r ∷ rs) =
    let more : 1 + position_or_len (λ (r : Running). eqb r.unit u) rs ≡ suc (unit_place u (map unit_of rs)) = omega (arith, place_first u rs) in
    ap (λ (n : ℕ). cond (not (eqb r.unit u)) n 0) more

-- the search among the units that are counted, where none before the i-th has the number: the i-th has it, or there is none
pub place-found :
    (u count i : ℕ) (running : List Running) → count ≤ length running → i ≤ count →
    ((k : ℕ) → k < i → (get_or (take count running) k unused).unit ≡ u → ⊥) →
    (i < count → (get_or (take count running) i unused).unit ≡ u) → i ≡ unit_place u (first_units count running)
place-found u count i running h upto before here =
    let counted : length (take count running) ≡ count = length-take-le count running h in
    rw (first-map count running h) (
    sym (position_or_len_is (λ (r : Running). eqb r.unit u) (take count running) i unused (omega arith) (λ k l. ne_eqb _ u (before k l)) (λ l. eq-eqb _ u (here (omega arith))))
    ∙ place_first u (take count running)
    )

-- the unit at its place, and no unit where the search goes past all
pub place-here : (u i : ℕ) (rs : List RunningUnit) → i ≡ unit_place u rs → i < length rs → Some i ≡ place_in u rs
place-here u i rs e h = rw (lt-ltb (unit_place u rs) (length rs) (omega arith), e)

pub place-nowhere : (u : ℕ) (rs : List RunningUnit) → length rs ≤ unit_place u rs → None ≡ place_in u rs
place-nowhere u rs h = rw (le-ltb (unit_place u rs) (length rs) h)

-- and taken back
module _ (u : ℕ) (rs : List RunningUnit) {o : Option ℕ} (found : o ≡ place_in u rs) where
  pub place-was : {at : ℕ} → o ≡ Some at → (at ≡ unit_place u rs) × (at < length rs)
  place-was {at} e = go (ltb (unit_place u rs) (length rs)) refl
    where
      go : (t : Bool) → ltb (unit_place u rs) (length rs) ≡ t → (at ≡ unit_place u rs) × (at < length rs)
      go true f =
          let same : at ≡ unit_place u rs = cc in
          (same, omega (arith, ltb-true (unit_place u rs) (length rs) f))
      go false f = let z : ◌≡◌ {A = ℕ} 0 1 = cc in absurd (omega arith)

  pub no-place : o ≡ None → length rs ≤ unit_place u rs
  no-place e = go (ltb (unit_place u rs) (length rs)) refl
    where
      go : (t : Bool) → ltb (unit_place u rs) (length rs) ≡ t → length rs ≤ unit_place u rs
      go true f = let z : ◌≡◌ {A = ℕ} 0 1 = cc in absurd (omega arith)
      go false f = ltb-false (unit_place u rs) (length rs) f

-- a unit runs where it has a place
pub place-runs : (u : ℕ) (rs : List RunningUnit) → unit_place u rs < length rs → runs u rs ≡ true
unfolding unit_place leading runs any
place-runs u [] h = absurd (not-suc-le-zero h)
place-runs u (r ∷ rs) h = go (eqb r.unit u) h (place-runs u rs)
  where
    more : ℕ
    more = unit_place u rs

    go :
        (t : Bool) → cond (not t) (suc more) 0 < suc (length rs) → (more < length rs → runs u rs ≡ true) →
        (t || runs u rs) ≡ true
    go true k ih = refl
    go false k ih = ih (le_of_suc-le-suc k)

pub place-rests : (u : ℕ) (rs : List RunningUnit) → length rs ≤ unit_place u rs → runs u rs ≡ false
unfolding unit_place leading runs any
place-rests u [] h = refl
place-rests u (r ∷ rs) h = go (eqb r.unit u) h (place-rests u rs)
  where
    more : ℕ
    more = unit_place u rs

    go :
        (t : Bool) → suc (length rs) ≤ cond (not t) (suc more) 0 → (length rs ≤ more → runs u rs ≡ false) →
        (t || runs u rs) ≡ false
    go true k ih = absurd (not-suc-le-zero k)
    go false k ih = ih (le_of_suc-le-suc k)

-- of units in order, only the one at the place has its number
pub taken_out :
    {b : ℕ} {rs : List RunningUnit} (u : ℕ) → InOrder b rs → unit_place u rs < length rs →
    removed (unit_place u rs) rs ≡ those (λ (r : RunningUnit). not (eqb r.unit u)) rs
unfolding unit_place leading removed those
taken_out u none_left h = refl
taken_out u (one_more {r} {rs} k e o) h = go (eqb r.unit u) refl h (taken_out u o)
  where
    others : List RunningUnit
    others = those (λ (r : RunningUnit). not (eqb r.unit u)) rs

    go :
        (t : Bool) → eqb r.unit u ≡ t → cond (not t) (suc (unit_place u rs)) 0 < suc (length rs) →
        (unit_place u rs < length rs → removed (unit_place u rs) rs ≡ others) →
        removed (cond (not t) (suc (unit_place u rs)) 0) (r ∷ rs) ≡ cond (not t) (r ∷ others) others
    go true f j ih = sym (those-all u rs (not-below u rs (omega (arith, eqb-true r.unit u f)) (order-rising o)))
    go false f j ih = ap (λ (l : List RunningUnit). r ∷ l) (ih (le_of_suc-le-suc j))

-- a list without what stands at a place
module _ {A : Type 0} where
  removed-split : (i : ℕ) (l : List A) → removed i l ≡ take i l ++ drop (suc i) l
  unfolding removed
  removed-split zero [] = refl
  removed-split (suc i) [] = refl
  removed-split zero (x ∷ xs) = refl
  removed-split (suc i) (x ∷ xs) = ap (λ (l : List A). x ∷ l) (removed-split i xs)

  removed-map : {B : Type 0} (f : A → B) (i : ℕ) (l : List A) → map f (removed i l) ≡ removed i (map f l)
  unfolding removed
  removed-map f zero [] = refl
  removed-map f (suc i) [] = refl
  removed-map f zero (x ∷ xs) = refl
  removed-map {B} f (suc i) (x ∷ xs) = ap (λ (l : List B). f x ∷ l) (removed-map f i xs)

-- the places behind the one that is taken out, moved one place forward
moved :
    (at m : ℕ) (old : List Running) → suc at + m ≤ length old →
    take (at + m) (paste old at (drop (suc at) old) m) ≡ removed at (take (suc at + m) old)
moved at m old h =
    let behind : m ≤ length (drop (suc at) old) = rw length-drop (omega arith) in
    take-paste old at (drop (suc at) old) m (omega arith) behind
    ∙ sym (removed-split at (take (suc at + m) old) ∙ rw (take-take at (suc at + m) old (omega arith), drop-take (suc at) m old))

-- with one unit less counted, those that are left are seen
pub shifted :
    (at count : ℕ) (old : List Running) → at < count → count ≤ length old →
    first_units (count - 1) (copy_within old (at + 1) count at) ≡ removed at (first_units count old)
shifted at count old h k =
    let m : ℕ = count - suc at in
    let first : at + m ≡ count - 1 = omega arith in
    let all : suc at + m ≡ count = omega arith in
    let behind : m ≤ length (drop (suc at) old) = rw length-drop (omega arith) in
    let there : length (paste old at (drop (suc at) old) m) ≡ length old = length-paste old at (drop (suc at) old) m (omega arith) behind in
    rw add-one (
    first-map (count - 1) (paste old at (drop (suc at) old) m) (omega arith)
    ∙ ap (map unit_of) (ap (λ (k : ℕ). take k (paste old at (drop (suc at) old) m)) (sym first) ∙ moved at m old (omega arith) ∙ ap (λ (k : ℕ). removed at (take k old)) all)
    ∙ removed-map unit_of at (take count old)
    ∙ ap (removed at) (sym (first-map count old k))
    )
