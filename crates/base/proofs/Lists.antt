-- Laws on lists beside the kit's: a list from a place on, and what lending a part of a slice makes of it. Assumes nothing.
use Prim.Native.Nat.{ℕ, zero, suc, ◌+◌, ◌-◌, ◌≤◌, ◌<◌, zero-le}
use mathlib.Core.Path.{◌≡◌, refl, sym, ◌∙◌}
use mathlib.Core.Logic.{⊎_elim}
use mathlib.Core.Bool.{Bool, true, ◌&&◌}
use mathlib.Core.List.Memᴰ.{tail as later}
use mathlib.Core.List.{List, [], ◌∷◌, map, Memᴰ as Among}
use native.Mathlib.Numerals.{add-one}
use native.Mathlib.Omega.{arith}
use lib.Dec.{leb}
use borrow.Author.Tests.{leb-true}
use Rattle.base.proofs.Tests.{and-fst, and-snd, lt-or-ge}
use lib.ListN.{length, get_or, take, drop, length-drop, drop_of_length-le, set}
use lib.Seq.{drop-cons, take_all, get_or-set_same, drop-set-lt, lt-length-set}

module _ {A : Type 0} (d : A) where
  -- the list from i on, taken apart by the code's `i + 1`
  pub drop-next : (i : ℕ) (s : List A) → i < length s → drop i s ≡ get_or s i d ∷ drop (i + 1) s
  drop-next i s h = rw (add-one, drop-cons s i d)

module _ {A : Type 0} where
  pub drop-end : (i : ℕ) (s : List A) → length s ≤ i → drop i s ≡ []
  drop-end i s h = drop_of_length-le s h

  -- `&s[a..]` reaches a callee as this
  pub rest-lent : (a : ℕ) (s : List A) → take (length s - a) (drop a s) ≡ drop a s
  rest-lent a s = take_all (length s - a) (drop a s) (omega (arith, length-drop a s))

  -- what stands behind a lent rest that has come back: nothing
  pub rest_back : (a : ℕ) (s : List A) → drop (length s - a) (drop a s) ≡ []
  rest_back a s = drop-end (length s - a) (drop a s) (omega (arith, length-drop a s))

  -- the list from a place on, where that place has been stored
  pub drop-set : (i : ℕ) (s : List A) (a : A) → i < length s → drop i (set s i a) ≡ a ∷ drop (i + 1) s
  drop-set i s a h =
      let k : i < length (set s i a) = lt-length-set s i a h in
      let j : i < i + 1 = omega arith in
      rw (drop-next a i (set s i a), get_or-set_same, drop-set-lt)

-- a bound of every element, by one test that computes over the whole list
unfoldable pub all_at_most : ℕ → List ℕ → Bool
all_at_most k [] = true
all_at_most k (x ∷ xs) = leb x k && all_at_most k xs

pub at-most : (k : ℕ) (l : List ℕ) → all_at_most k l ≡ true → (i : ℕ) → get_or l i 0 ≤ k
unfolding all_at_most
at-most k [] e i = zero-le
at-most k (x ∷ xs) e zero = leb-true x k (and-fst (leb x k) (all_at_most k xs) e)
at-most k (x ∷ xs) e (suc i) = at-most k xs (and-snd (leb x k) (all_at_most k xs) e) i

-- a rest of a list is found again by its length
pub drop-back : {A : Type 0} (i : ℕ) (s : List A) → drop (length s - length (drop i s)) s ≡ drop i s
drop-back i s = ⊎_elim inside past (lt-or-ge i (length s))
  where
    inside : i < length s → drop (length s - length (drop i s)) s ≡ drop i s
    inside h =
        let back : length s - length (drop i s) ≡ i = omega (arith, length-drop i s) in
        rw back

    past : length s ≤ i → drop (length s - length (drop i s)) s ≡ drop i s
    past h = drop-end (length s - length (drop i s)) s (omega (arith, length-drop i s)) ∙ sym (drop-end i s h)

pub drop-map : {A B : Type 0} (f : A → B) (i : ℕ) (l : List A) → drop i (map f l) ≡ map f (drop i l)
drop-map f zero l = refl
drop-map f (suc i) [] = refl
drop-map f (suc i) (x ∷ xs) = drop-map f i xs

-- what is among the elements from a place on is among all
pub among-drop : {A : Type 0} {x : A} (i : ℕ) (l : List A) → Among x (drop i l) → Among x l
among-drop zero l m = m
among-drop (suc i) [] m = m
among-drop (suc i) (y ∷ ys) m = later (among-drop i ys m)
