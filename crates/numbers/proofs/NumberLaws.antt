-- Laws of the different numbers that some rows have in a column: they rise, they are just the rows' own, and how many they
-- are. Assumes nothing.
use Prim.Native.Nat.{ℕ, ◌+◌, ◌≤◌, ◌<◌}
use mathlib.Core.Path.{◌≡◌, refl, sym, ◌∙◌}
use mathlib.Core.Logic.{⊎_elim}
use mathlib.Core.Bool.{Bool, true, false, ◌||◌, or-false}
use mathlib.Core.List.{List, [], ◌∷◌}
use native.Mathlib.Omega.{arith}
use lib.Dec.{eqb}
use lib.ListN.{length}
use borrow.Author.Tests.{eq-eqb, ne_eqb}
use Rattle.base.specs.Rising.{inserted, among, RisingFrom, end, next}
use Rattle.base.specs.Search.{any, All, all_none, all_more}
use Rattle.base.proofs.RisingLaws.{inserted-cases, inserted_rising, inserted-most, inserted-least, among-inserted}
use Rattle.base.proofs.Tests.{eq-or-ne}
use Rattle.numbers.specs.Numbers.{numbers_from, numbers_of}

-- numbers that strictly rise
pub data Rises : List ℕ → Type 0 where
  nothing : Rises []
  from : {x : ℕ} {xs : List ℕ} → RisingFrom x xs → Rises (x ∷ xs)

pub inserted-rises : {ys : List ℕ} (x : ℕ) → Rises ys → Rises (inserted x ys)
unfolding inserted
inserted-rises x nothing = from end
inserted-rises x (from {x = y} {xs = ys} r) =
    inserted-cases x y ys Rises
    (λ below. from (next below r))
    (λ same. from r)
    (λ above. from (inserted_rising x above r))

pub eqb-swapped : (m n : ℕ) → eqb m n ≡ eqb n m
eqb-swapped m n =
    ⊎_elim
    (λ e. eq-eqb m n e ∙ sym (eq-eqb n m (sym e)))
    (λ e. ne_eqb m n e ∙ sym (ne_eqb n m (λ f. e (sym f))))
    (eq-or-ne m n)

-- a number that came with the row, or before it, or comes after it
pub one_of : (row before after : Bool) → ((row || before) || after) ≡ (before || (row || after))
one_of true true after = refl
one_of true false after = refl
one_of false before after = refl

module _ {A : Type 0} (column : A → ℕ) where
  rises-from : {xs : List ℕ} (rs : List A) → Rises xs → Rises (numbers_from column xs rs)
  unfolding numbers_from
  rises-from [] h = h
  rises-from {xs = xs} (r ∷ rs) h = rises-from {xs = inserted (column r) xs} rs (inserted-rises (column r) h)

  pub numbers-rise : (rs : List A) → Rises (numbers_of column rs)
  unfolding numbers_of
  numbers-rise rs = rises-from rs nothing

  above_from :
      {b : ℕ} {xs : List ℕ} {rs : List A} → RisingFrom b xs → All (λ (r : A). b < column r) rs →
      RisingFrom b (numbers_from column xs rs)
  unfolding numbers_from
  above_from h all_none = h
  above_from {b = b} {xs = xs} h (all_more {x = r} {xs = xs'} p a) = above_from {xs = inserted (column r) xs} (inserted_rising (column r) p h) a

  -- above a bound, where every row's is
  pub numbers-above : {b : ℕ} {rs : List A} → All (λ (r : A). b < column r) rs → RisingFrom b (numbers_of column rs)
  unfolding numbers_of
  numbers-above a = above_from end a

  among-from :
      (x : ℕ) (xs : List ℕ) (rs : List A) →
      among x (numbers_from column xs rs) ≡ (among x xs || any (λ (r : A). eqb (column r) x) rs)
  unfolding numbers_from any
  among-from x xs [] = sym (or-false (among x xs))
  among-from x xs (r ∷ rs) =
      among-from x (inserted (column r) xs) rs
      ∙ rw (among-inserted x (column r) xs, eqb-swapped x (column r)) (one_of (eqb (column r) x) (among x xs) _)

  -- a number is among them where some row has it
  pub among-numbers : (x : ℕ) (rs : List A) → among x (numbers_of column rs) ≡ any (λ (r : A). eqb (column r) x) rs
  unfolding numbers_of among
  among-numbers x rs = among-from x [] rs

  pub numbers-least : (xs : List ℕ) (rs : List A) → length xs ≤ length (numbers_from column xs rs)
  unfolding numbers_from
  numbers-least xs [] = omega arith
  numbers-least xs (r ∷ rs) = omega (arith, inserted-least (column r) xs, numbers-least (inserted (column r) xs) rs)

  most-from : (xs : List ℕ) (rs : List A) → length (numbers_from column xs rs) ≤ length xs + length rs
  unfolding numbers_from
  most-from xs [] = omega arith
  most-from xs (r ∷ rs) = omega (arith, inserted-most (column r) xs, most-from (inserted (column r) xs) rs)

  -- no more than rows
  pub numbers-most : (rs : List A) → length (numbers_of column rs) ≤ length rs
  unfolding numbers_of
  numbers-most rs = omega (arith, most-from [] rs)
