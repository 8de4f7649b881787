-- The reading of a numeral, step by step. Assumes nothing.
use Rattle.std.specs.Prelude.{None, Option, Some}
use Prim.Native.Nat.{ℕ, ◌≤◌, ◌<◌}
use mathlib.Core.Path.{◌≡◌, refl, sym, ◌∙◌, subst}
use mathlib.Core.Logic.{◌⊎◌, inl, inr, ◌≢◌}
use mathlib.Core.Bool.{Bool, true, false, cond, ◌&&◌, and-false}
use mathlib.Core.List.{List, [], ◌∷◌}
use native.Mathlib.Omega.{arith}
use lib.Dec.{leb}
use borrow.Author.Tests.{le-leb, lt-leb, ne_eqb, leb-true}
use Rattle.base.proofs.Tests.{lt-or-ge}
use Rattle.numeral.specs.Numeral.{ZERO, NINE, with_digit, digits_from, leading_zero, number, within}
use Rattle.numeral.specs.Grammar.{Digit, Digits, Digits.end, Digits.digit}

-- no number is none
pub none-some : {A : Type 0} {n : ℕ} → ◌≡◌ {A = Option ℕ} None (Some n) → A
none-some e = let z : ◌≡◌ {A = ℕ} 0 1 = cc in absurd (omega arith)

-- one step of the reading: a digit, or another byte
pub from-digit : (m b : ℕ) (s : List ℕ) → Digit b → digits_from m (b ∷ s) ≡ digits_from (with_digit m b) s
unfolding digits_from
from-digit m b s d = simp (le-leb _ _ d.least, le-leb _ _ d.most)

pub from-other : (m b : ℕ) (s : List ℕ) → (Digit b → ⊥) → digits_from m (b ∷ s) ≡ None
unfolding digits_from
from-other m b s h = go (leb ZERO b) (leb b NINE) refl refl
  where
    go : (p q : Bool) → leb ZERO b ≡ p → leb b NINE ≡ q → cond (p && q) (digits_from (with_digit m b) s) None ≡ None
    go true true e f = absurd (h (record { least = leb-true ZERO b e; most = leb-true b NINE f }))
    go true false e f = refl
    go false q e f = refl

-- a text that begins with another byte than 0 is read from its start
pub number-from : (b : ℕ) (s : List ℕ) → b ≢ ZERO → number (b ∷ s) ≡ digits_from 0 (b ∷ s)
unfolding number leading_zero
number-from b [] h = refl
number-from b (c ∷ s) h = simp (ne_eqb b ZERO h)

-- a byte is a digit or not
digit_or : (b : ℕ) → Digit b ⊎ (Digit b → ⊥)
digit_or b = go (lt-or-ge b ZERO) (lt-or-ge NINE b)
  where
    go : (b < ZERO) ⊎ (ZERO ≤ b) → (NINE < b) ⊎ (b ≤ NINE) → Digit b ⊎ (Digit b → ⊥)
    go (inl h) k = inr (λ d. omega arith)
    go (inr h) (inl k) = inr (λ d. omega arith)
    go (inr h) (inr k) = inl (record { least = h; most = k })

-- further digits are read by their grammar, and by nothing else
pub digits-read : {m n : ℕ} {s : List ℕ} → Digits m s n → digits_from m s ≡ Some n
unfolding digits_from
digits-read end = refl
digits-read (digit {m = m} {b = b} {s = s} d r) = from-digit m b s d ∙ digits-read r

pub read-digits : (m : ℕ) (s : List ℕ) (n : ℕ) → digits_from m s ≡ Some n → Digits m s n
unfolding digits_from
read-digits m [] n e = let h : m ≡ n = cc in subst (λ (x : ℕ). Digits m [] x) h end
read-digits m (b ∷ s) n e = go (digit_or b) (read-digits (with_digit m b) s n)
  where
    go : Digit b ⊎ (Digit b → ⊥) → (digits_from (with_digit m b) s ≡ Some n → Digits (with_digit m b) s n) → Digits m (b ∷ s) n
    go (inl d) ih = digit d (ih (sym (from-digit m b s d) ∙ e))
    go (inr h) ih = none-some (sym (from-other m b s h) ∙ e)

-- a number above the maximum stays above it with further digits
module _ (least most : ℕ) where
  guarded : (t : Bool) (o : Option ℕ) → within least most o ≡ None → within least most (cond t o None) ≡ None
  unfolding within
  guarded true o e = e
  guarded false o e = refl

  pub above : (n : ℕ) (s : List ℕ) → most < n → within least most (digits_from n s) ≡ None
  unfolding within digits_from
  above n [] h = simp (lt-leb n most h, and-false)
  above n (b ∷ s) h =
      guarded (leb ZERO b && leb b NINE) (digits_from (with_digit n b) s) (above (with_digit n b) s (omega arith))

  pub above-next : (n b : ℕ) (s : List ℕ) → most < with_digit n b → within least most (digits_from n (b ∷ s)) ≡ None
  unfolding digits_from
  above-next n b s h = guarded (leb ZERO b && leb b NINE) (digits_from (with_digit n b) s) (above (with_digit n b) s h)
