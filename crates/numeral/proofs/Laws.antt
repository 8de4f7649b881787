-- The laws of numerals: the reading decides the grammar, reading and writing undo one another, how long a numeral is,
-- that all of it is digits, and what `read` answers. Assumes nothing.
use Rattle.std.specs.Prelude.{None, Option, Some}
use Prim.Native.Nat.{ℕ, zero, suc, ◌+◌, ◌/◌, ◌%◌, ◌^◌, ◌≤◌, ◌<◌}
use mathlib.Core.Path.{◌≡◌, refl, sym, ◌∙◌, ap}
use mathlib.Core.Logic.{◌⊎◌, inl, inr, ⊎_elim}
use mathlib.Core.Bool.{Bool, true, false, cond, ◌&&◌}
use mathlib.Core.List.Memᴰ
use mathlib.Core.List.{List, [], ◌∷◌, ◌++◌, Memᴰ}
use native.Mathlib.Omega.{arith}
use lib.Dec.{leb, eqb}
use lib.ListN.{length}
use borrow.Author.Tests.{leb-true, eqb-true, eqb-false}
use Rattle.base.proofs.Tests.{lt-or-ge}
use Rattle.numeral.specs.Numeral.{ZERO, with_digit, digits_from, leading_zero, number, within, digits_before, digits}
use Rattle.numeral.specs.Grammar.{Digit, Digits, Numeral, Digits.end, Digits.digit, Numeral.zero-itself, Numeral.no-leading-zero}
use Rattle.numeral.proofs.Reading.{none-some, from-digit, number-from, digits-read, read-digits}
use Rattle.numeral.proofs.Writing.{before, before-one, before_more, length-one, length_more}

-- the reading decides the grammar
pub numeral-number : {s : List ℕ} {n : ℕ} → Numeral s n → number s ≡ Some n
unfolding number leading_zero digits_from
numeral-number zero-itself = refl
numeral-number (no-leading-zero {b = b} {s = s} h r) = number-from b s h ∙ digits-read r

pub number-numeral : (s : List ℕ) (n : ℕ) → number s ≡ Some n → Numeral s n
unfolding number leading_zero digits_from
number-numeral [] n e = none-some e
number-numeral (b ∷ []) n e = go (eqb b ZERO) refl
  where
    go : (t : Bool) → eqb b ZERO ≡ t → Numeral (b ∷ []) n
    go true f =
        let h : b ≡ ZERO = eqb-true b ZERO f in
        let g : number (ZERO ∷ []) ≡ Some n = rw h at e in
        let k : 0 ≡ n = cc in
        rw (h, ← k) zero-itself
    go false f = no-leading-zero (eqb-false b ZERO f) (read-digits 0 (b ∷ []) n e)
number-numeral (b ∷ c ∷ s) n e = go (eqb b ZERO) refl
  where
    go : (t : Bool) → eqb b ZERO ≡ t → Numeral (b ∷ c ∷ s) n
    go true f = none-some (simp f at e)
    go false f = no-leading-zero (eqb-false b ZERO f) (read-digits 0 (b ∷ c ∷ s) n (simp f at e))

-- reading undoes writing, and writing undoes reading
before-read : (k n : ℕ) (t : List ℕ) → n ≤ k → 0 < n → number (before n t) ≡ digits_from n t
before-read zero n t p q = absurd (omega arith)
before-read (suc k) n t p q =
    go (before-read k (n / 10) ((ZERO + n % 10) ∷ t)) (lt-or-ge n 10)
  where
    first : n < 10 → with_digit 0 (ZERO + n) ≡ n
    first l = omega arith

    again : with_digit (n / 10) (ZERO + n % 10) ≡ n
    again = omega arith

    go : (n / 10 ≤ k → 0 < n / 10 → number (before (n / 10) ((ZERO + n % 10) ∷ t)) ≡ digits_from (n / 10) ((ZERO + n % 10) ∷ t))
        → (n < 10) ⊎ (10 ≤ n) → number (before n t) ≡ digits_from n t
    go ih (inl l) =
        ap number (before-one n t l) ∙ number-from (ZERO + n) t (λ e. omega arith)
        ∙ from-digit 0 (ZERO + n) t (omega arith) ∙ ap (λ (m : ℕ). digits_from m t) (first l)
    go ih (inr l) =
        ap number (before_more n t l) ∙ ih (omega arith) (omega arith)
        ∙ from-digit (n / 10) (ZERO + n % 10) t (omega arith) ∙ ap (λ (m : ℕ). digits_from m t) again

pub number_digits : (n : ℕ) → number (digits n) ≡ Some n
unfolding digits number leading_zero digits_from digits_before
number_digits zero = refl
number_digits (suc n) = before-read (suc n) (suc n) [] (omega arith) (omega arith)

before-digits : {m n : ℕ} {s : List ℕ} → Digits m s n → 0 < m → before m s ≡ digits n
unfolding digits
before-digits end p = refl
before-digits (digit {m = m} {b = b} {s = s} d r) p =
    let first : with_digit m b / 10 ≡ m = omega arith in
    let last : ZERO + with_digit m b % 10 ≡ b = omega arith in
    sym (rw (first, last) at (before_more (with_digit m b) s (omega arith))) ∙ before-digits r (omega arith)

pub numeral-digits : {s : List ℕ} {n : ℕ} → Numeral s n → s ≡ digits n
unfolding digits digits_before
numeral-digits zero-itself = refl
numeral-digits (no-leading-zero h (digit {b = b} {s = s} d r)) =
    let first : ZERO + with_digit 0 b ≡ b = omega arith in
    sym (rw first at (before-one (with_digit 0 b) s (omega arith))) ∙ before-digits r (omega arith)

pub digits_number : (s : List ℕ) (n : ℕ) → number s ≡ Some n → s ≡ digits n
digits_number s n e = numeral-digits (number-numeral s n e)

pub digits-numeral : (n : ℕ) → Numeral (digits n) n
digits-numeral n = number-numeral (digits n) n (number_digits n)

-- a numeral has a digit, and no more than its size needs
pub length-at-least : (n : ℕ) → 1 ≤ length (digits n)
length-at-least n = ⊎_elim (λ h. omega (arith, length-one n h)) (λ h. omega (arith, length_more n h)) (lt-or-ge n 10)

pub length-at-most : (k n : ℕ) → 0 < k → n < 10 ^ k → length (digits n) ≤ k
length-at-most zero n p h = absurd (omega arith)
length-at-most (suc zero) n p h = omega (arith, length-one n h)
length-at-most (suc (suc k)) n p h =
    go (length-at-most (suc k) (n / 10) (omega arith)) (lt-or-ge n 10)
  where
    go : (n / 10 < 10 ^ suc k → length (digits (n / 10)) ≤ suc k) → (n < 10) ⊎ (10 ≤ n) → length (digits n) ≤ suc (suc k)
    go ih (inl l) = omega (arith, length-one n l)
    go ih (inr l) = let f : length (digits (n / 10)) ≤ suc k = ih (omega arith) in omega (arith, length_more n l)

pub length-u64 : (n : ℕ) → n < 2 ^ 64 → length (digits n) ≤ 20
length-u64 n h = length-at-most 20 n (omega arith) (omega arith)

-- the numeral of a larger number is no shorter
longer-from : (k m n : ℕ) → n ≤ k → m ≤ n → length (digits m) ≤ length (digits n)
longer-from zero m n p h = omega (arith, length-one m (omega arith), length-at-least n)
longer-from (suc k) m n p h = go (longer-from k (m / 10) (n / 10)) (lt-or-ge m 10) (lt-or-ge n 10)
  where
    go : (n / 10 ≤ k → m / 10 ≤ n / 10 → length (digits (m / 10)) ≤ length (digits (n / 10))) → (m < 10) ⊎ (10 ≤ m) → (n < 10) ⊎ (10 ≤ n) →
        length (digits m) ≤ length (digits n)
    go ih (inl l) e = omega (arith, length-one m l, length-at-least n)
    go ih (inr l) (inl e) = absurd (omega arith)
    go ih (inr l) (inr e) =
        let f : length (digits (m / 10)) ≤ length (digits (n / 10)) = ih (omega arith) (omega arith) in
        omega (arith, length_more m l, length_more n e)

pub length-longer : (m n : ℕ) → m ≤ n → length (digits m) ≤ length (digits n)
length-longer m n h = longer-from n m n (omega arith) h

-- every byte of a numeral is a digit
digits-all : {m n b : ℕ} {s : List ℕ} → Digits m s n → Memᴰ b s → Digit b
digits-all {b = b} (end {m = m}) x5 = elim x5 [ ]
digits-all (digit d r) (Memᴰ.head e) = rw e d
digits-all (digit d r) (Memᴰ.tail i) = digits-all r i

pub numeral-digit : {b n : ℕ} {s : List ℕ} → Numeral s n → Memᴰ b s → Digit b
numeral-digit {b = b} zero-itself (Memᴰ.tail x8) = elim x8 [ ]
numeral-digit zero-itself (Memᴰ.head e) = rw e (omega arith)
numeral-digit (no-leading-zero h r) i = digits-all r i

pub digits-digit : (n : ℕ) {b : ℕ} → Memᴰ b (digits n) → Digit b
digits-digit n i = numeral-digit (digits-numeral n) i

pub no-numeral : (s : List ℕ) {b : ℕ} → (Digit b → ⊥) → Memᴰ b s → number s ≡ None
no-numeral s h i = go (number s) refl
  where
    go : (o : Option ℕ) → number s ≡ o → o ≡ None
    go None e = refl
    go (Some n) e = absurd (h (numeral-digit (number-numeral s n e) i))

pub no-numeral-around : (a c : List ℕ) (b : ℕ) → (Digit b → ⊥) → number (a ++ b ∷ c) ≡ None
no-numeral-around a c b h = no-numeral (a ++ b ∷ c) h (Memᴰ.append_right a (Memᴰ.head refl))

-- what a number within the bounds is
pub within-some :
    (least most n : ℕ) (o : Option ℕ) → within least most o ≡ Some n → (o ≡ Some n) × (least ≤ n) × (n ≤ most)
unfolding within
within-some least most n None e = none-some e
within-some least most n (Some m) e = go (leb least m) (leb m most) refl refl e
  where
    go :
        (p q : Bool) → leb least m ≡ p → leb m most ≡ q → cond (p && q) (Some m) None ≡ Some n →
        (Some m ≡ Some n) × (least ≤ n) × (n ≤ most)
    go true true f g e =
        let same : m ≡ n = cc in
        (e, rw same at (leb-true least m f), rw same at (leb-true m most g))
    go true false f g e = none-some e
    go false q f g e = none-some e
