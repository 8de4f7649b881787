-- Laws of searches over plain lists: what is found where some element passes a test, what a search that finds nothing says
-- of each element, and what one for elements at odds says of two. Assumes nothing.
use Rattle.std.specs.Prelude.{None, Some, unwrap_or}
use Prim.Native.Nat.{ℕ, suc}
use mathlib.Core.Path.{◌≡◌, refl, sym}
use mathlib.Core.Bool.{Bool, true, false, cond, ◌||◌, or-true}
use mathlib.Core.List.Memᴰ.{head}
use mathlib.Core.List.Memᴰ.{tail as later}
use mathlib.Core.List.{List, [], ◌∷◌, Memᴰ as Among}
use native.Mathlib.Omega.{arith}
use lib.Dec.{eqb}
use borrow.Author.Tests.{eq-eqb}
use Rattle.base.specs.Rising.{among}
use Rattle.base.specs.Search.{any, find, first_at_odds}
use Rattle.base.proofs.Elements.{none-mem}
use Rattle.base.proofs.Tests.{false-true}

-- two tests that pass together are the same
pub same_test : (a b : Bool) → (a ≡ true → b ≡ true) → (b ≡ true → a ≡ true) → a ≡ b
same_test true b f g = sym (f refl)
same_test false true f g = g refl
same_test false false f g = refl

pub some-none : {A B : Type 0} {x : A} → Some x ≡ None → B
some-none e = let z : ◌≡◌ {A = ℕ} 0 1 = cc in absurd (omega arith)

-- a number among some
pub among-true : {x : ℕ} {xs : List ℕ} → Among x xs → among x xs ≡ true
unfolding among
among-true {x} (head {x = y} e) = simp (eq-eqb x y e)
among-true {x} (later {x = y} m) = simp (among-true m) (or-true (eqb x y))

module _ {A : Type 0} (p : A → Bool) where
  -- where one passes, some element does
  pub mem-any : {x : A} {xs : List A} → Among x xs → p x ≡ true → any p xs ≡ true
  unfolding any
  mem-any (head e) t = rw (← e, t)
  mem-any (later {x = y} m) t = simp (mem-any m t) (or-true (p y))

  -- the first that passes, where some does
  pub found :
      (d : A) (xs : List A) → any p xs ≡ true →
      Among (unwrap_or (find p xs) d) xs × (p (unwrap_or (find p xs) d) ≡ true)
  unfolding any find
  found d [] e = false-true e
  found d (x ∷ xs) e = go (p x) refl e (found d xs)
    where
      go :
          (t : Bool) → p x ≡ t → (t || any p xs) ≡ true →
          (any p xs ≡ true → Among (unwrap_or (find p xs) d) xs × (p (unwrap_or (find p xs) d) ≡ true)) →
          Among (unwrap_or (cond t (Some x) (find p xs)) d) (x ∷ xs)
          × (p (unwrap_or (cond t (Some x) (find p xs)) d) ≡ true)
      go true f e more = (head refl, f)
      go false f e more = (later (more e).0, (more e).1)

  -- where nothing is found, each fails
  pub none_found : {x : A} {xs : List A} → find p xs ≡ None → Among x xs → p x ≡ false
  unfolding find
  none_found e (head {x = y} {xs = ys} f) = rw f (go (p y) e)
    where
      go : (t : Bool) → cond t (Some y) (find p ys) ≡ None → t ≡ false
      go true e = some-none e
      go false e = refl
  none_found e (later {x = y} {xs = ys} m) = none_found (go (p y) e) m
    where
      go : (t : Bool) → cond t (Some y) (find p ys) ≡ None → find p ys ≡ None
      go true e = some-none e
      go false e = e

-- elements of which none is at odds with an earlier one
module _ {A : Type 0} (odds : A → A → Bool) where
  -- the two parts of such a search that finds none
  pub odds-none :
      (seen : List A) (k : ℕ) (x : A) (xs : List A) → first_at_odds odds seen k (x ∷ xs) ≡ None →
      (any (odds x) seen ≡ false) × (first_at_odds odds (x ∷ seen) (suc k) xs ≡ None)
  unfolding first_at_odds
  odds-none seen k x xs e = go (any (odds x) seen) e
    where
      go :
          (t : Bool) → cond t (Some k) (first_at_odds odds (x ∷ seen) (suc k) xs) ≡ None →
          (t ≡ false) × (first_at_odds odds (x ∷ seen) (suc k) xs ≡ None)
      go true e = some-none e
      go false e = (refl, e)

  -- one against one that was seen before
  against-seen :
      {r e : A} (seen : List A) (k : ℕ) {xs : List A} → first_at_odds odds seen k xs ≡ None → Among r xs → Among e seen →
      odds r e ≡ false
  against-seen {e = e} seen k f (head {x = x} {xs = xs} is) n =
      rw is (none-mem (odds x) seen e (odds-none seen k x xs f).0 n)
  against-seen seen k f (later {x = x} {xs = xs} m) n =
      against-seen (x ∷ seen) (suc k) (odds-none seen k x xs f).1 m (later n)

  -- two elements are the same one, or one is not at odds with the other
  pub data Agree (r e : A) : Type 0 where
    same : r ≡ e → Agree r e
    behind : odds r e ≡ false → Agree r e
    before : odds e r ≡ false → Agree r e

  agree-from :
      {r e : A} (seen : List A) (k : ℕ) {xs : List A} → first_at_odds odds seen k xs ≡ None → Among r xs → Among e xs → Agree r e
  agree-from seen k f (head {x = x} {xs = xs} i) (head j) = same (rw (i, j))
  agree-from seen k f (head {x = x} {xs = xs} i) (later n) =
      before (against-seen (x ∷ seen) (suc k) (odds-none seen k x xs f).1 n (head i))
  agree-from seen k f (later {x = x} {xs = xs} m) (head j) =
      behind (against-seen (x ∷ seen) (suc k) (odds-none seen k x xs f).1 m (head j))
  agree-from seen k f (later {x = x} {xs = xs} m) (later n) =
      agree-from (x ∷ seen) (suc k) (odds-none seen k x xs f).1 m n

  pub agree : (k : ℕ) {xs : List A} {r e : A} → first_at_odds odds [] k xs ≡ None → Among r xs → Among e xs → Agree r e
  agree k f m n = agree-from [] k f m n
