-- The writing of a number, step by step. Assumes nothing.
use Prim.Native.Nat.{ℕ, zero, suc, ◌+◌, ◌/◌, ◌%◌, ◌≤◌, ◌<◌}
use mathlib.Core.Path.{◌≡◌, refl, ◌∙◌, ap}
use mathlib.Core.Bool.{Bool, true, false, cond}
use mathlib.Core.List.{List, [], ◌∷◌, ◌++◌}
use native.Mathlib.Nat.{mod-eq_of_lt}
use native.Mathlib.Omega.{arith}
use lib.Dec.{ltb}
use lib.ListN.{length, length-append}
use borrow.Author.Tests.{lt-ltb, le-ltb}
use Rattle.numeral.specs.Numeral.{ZERO, digits_before, digits}

-- the digits of n and then a text
abbrev pub before : ℕ → List ℕ → List ℕ
before n t = digits_before n n t

enough : (j k n : ℕ) (t : List ℕ) → n ≤ j → n ≤ k → digits_before j n t ≡ digits_before k n t
unfolding digits_before
enough zero zero n t p q = refl
enough zero (suc k) n t p q = simp (lt-ltb n 10 (omega arith))
enough (suc j) zero n t p q = simp (lt-ltb n 10 (omega arith))
enough (suc j) (suc k) n t p q =
    simp (enough j k (n / 10) ((ZERO + n % 10) ∷ t) (omega arith) (omega arith))

pub before-one : (n : ℕ) (t : List ℕ) → n < 10 → before n t ≡ (ZERO + n) ∷ t
unfolding digits_before
before-one zero t h = refl
before-one (suc n) t h = simp (lt-ltb (suc n) 10 h, mod-eq_of_lt h)

pub before_more : (n : ℕ) (t : List ℕ) → 10 ≤ n → before n t ≡ before (n / 10) ((ZERO + n % 10) ∷ t)
unfolding digits_before
before_more zero t h = absurd (omega arith)
before_more (suc n) t h =
    simp (le-ltb (suc n) 10 h) (enough n (suc n / 10) (suc n / 10) ((ZERO + suc n % 10) ∷ t) (omega arith) (omega arith))

cond-append : (c : Bool) (a b u v z : List ℕ) → u ≡ a ++ z → v ≡ b ++ z → cond c u v ≡ cond c a b ++ z
cond-append true a b u v z p q = p
cond-append false a b u v z p q = q

onto : (k n : ℕ) (s t : List ℕ) → digits_before k n (s ++ t) ≡ digits_before k n s ++ t
unfolding digits_before
onto zero n s t = refl
onto (suc k) n s t =
    cond-append (ltb n 10) _ _ _ _ t refl (onto k (n / 10) ((ZERO + n % 10) ∷ s) t)

pub before-append : (n : ℕ) (t : List ℕ) → before n t ≡ digits n ++ t
unfolding digits
before-append n t = onto n n [] t

-- a numeral of more digits than one ends in the last
pub digits_more : (n : ℕ) → 10 ≤ n → digits n ≡ digits (n / 10) ++ (ZERO + n % 10) ∷ []
unfolding digits
digits_more n h = before_more n [] h ∙ before-append (n / 10) ((ZERO + n % 10) ∷ [])

-- the length of a numeral
pub length-one : (n : ℕ) → n < 10 → length (digits n) ≡ 1
unfolding digits
length-one n h = ap length (before-one n [] h)

pub length_more : (n : ℕ) → 10 ≤ n → length (digits n) ≡ length (digits (n / 10)) + 1
length_more n h = ap length (digits_more n h) ∙ length-append (digits (n / 10)) ((ZERO + n % 10) ∷ [])
