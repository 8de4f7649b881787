-- What each way through the code comes to, over plain numbers and lists: `zero_leads`, `read` and `write`.
-- Assumes nothing.
use Rattle.std.specs.Prelude.{None, Option, Some}
use Prim.Native.Nat.{ℕ, ◌+◌, ◌/◌, ◌%◌, ◌≤◌, ◌<◌}
use mathlib.Core.Path.{◌≡◌, refl, sym, ◌∙◌}
use mathlib.Core.Bool.{true, false}
use mathlib.Core.List.{List, [], ◌∷◌}
use native.Mathlib.Omega.{arith}
use lib.Dec.{eqb}
use lib.ListN.{length, get_or, drop, set}
use borrow.Author.Tests.{le-leb, lt-leb}
use Rattle.base.specs.promises.Writing.{Wrote}
use Rattle.base.proofs.Lists.{drop-next, drop-end, drop-set}
use Rattle.numeral.specs.Numeral.{ZERO, with_digit, digits_from, leading_zero, number, within, digits}
use Rattle.numeral.specs.Grammar.{Digit}
use Rattle.numeral.proofs.Reading.{from-digit, from-other, above-next}
use Rattle.numeral.proofs.Writing.{before, before-one, before_more, before-append}

-- whether a zero leads
pub leads-short : (s : List ℕ) → length s < 2 → false ≡ leading_zero s
unfolding leading_zero
leads-short [] h = refl
leads-short (b ∷ []) h = refl
leads-short (b ∷ c ∷ s) h = absurd (omega arith)

pub leads-long : (s : List ℕ) → 2 ≤ length s → eqb (get_or s 0 0) ZERO ≡ leading_zero s
unfolding leading_zero
leads-long [] h = absurd (omega arith)
leads-long (b ∷ []) h = absurd (omega arith)
leads-long (b ∷ c ∷ s) h = refl

-- the reading starts with nothing read
pub read-start : (s : List ℕ) → (length s ≡ 0 → ⊥) → leading_zero s ≡ false → number s ≡ digits_from 0 (drop 0 s)
unfolding number
read-start [] h e = absurd (h refl)
read-start (b ∷ s) h e = simp e

-- one more digit is read
pub read-digit :
    (s : List ℕ) (i n : ℕ) → number s ≡ digits_from n (drop i s) → i < length s → Digit (get_or s i 0) →
    number s ≡ digits_from (with_digit n (get_or s i 0)) (drop (i + 1) s)
read-digit s i n read h d = rw (read, drop-next 0 i s) (from-digit n (get_or s i 0) (drop (i + 1) s) d)

module _ (least most : ℕ) where
  refused : (o : Option ℕ) → within least most o ≡ None → None ≡ within least most o
  refused o e = rw e

  -- before the reading starts
  pub refused-empty : (s : List ℕ) → length s ≡ 0 → None ≡ within least most (number s)
  unfolding number within
  refused-empty [] e = refused None refl
  refused-empty (b ∷ s) e = absurd (omega arith)

  pub refused-leading : (s : List ℕ) → leading_zero s ≡ true → None ≡ within least most (number s)
  unfolding number within
  refused-leading [] e = refused None refl
  refused-leading (b ∷ s) e = rw e (refused None refl)

  -- at a byte, and at the end
  module _ (s : List ℕ) (i n : ℕ) (read : number s ≡ digits_from n (drop i s)) where
    pub refused-other : i < length s → (Digit (get_or s i 0) → ⊥) → None ≡ within least most (number s)
    unfolding within
    refused-other h d =
        rw (read, drop-next 0 i s, from-other n (get_or s i 0) (drop (i + 1) s) d) (refused None refl)

    pub refused-above : i < length s → most < with_digit n (get_or s i 0) → None ≡ within least most (number s)
    refused-above h k =
        let rest = get_or s i 0 ∷ drop (i + 1) s in
        rw (read, drop-next 0 i s) (refused (digits_from n rest) (above-next least most n _ _ k))

    pub refused-below : length s ≤ i → n < least → None ≡ within least most (number s)
    unfolding within digits_from
    refused-below h k = rw (read, drop-end i s h) (refused (Some n) (simp (lt-leb least n k)))

    pub answered : length s ≤ i → least ≤ n → n ≤ most → Some n ≡ within least most (number s)
    unfolding within digits_from
    answered h k l = rw (read, drop-end i s h) (simp (le-leb least n k, le-leb n most l))

-- one more digit is written, at the place in front of those that are
pub written-digit :
    (out text : List ℕ) (at last rest b next : ℕ) →
    at < length out → last ≡ at + 1 → 10 ≤ rest → b ≡ ZERO + rest % 10 → next ≡ rest / 10 →
    before rest (drop last out) ≡ text → before next (drop at (set out at b)) ≡ text
written-digit out text at last rest b next h p k q r e =
    rw (r, drop-set, q) (sym (before_more rest (drop (at + 1) out) k) ∙ (rw p at e))

-- the first digit is written last
pub written-first :
    (out old : List ℕ) (at rest n count : ℕ) →
    0 < length out → at ≡ 1 → rest < 10 → count ≡ length (digits n) →
    before rest (drop at out) ≡ before n (drop count old) → Wrote (digits n) count old (set out 0 (ZERO + rest))
written-first out old at rest n count h p k c e =
    record {
      counted = c;
      written =
          drop-set 0 out (ZERO + rest) h
          ∙ sym (before-one rest (drop 1 out) k)
          ∙ (rw p at e)
          ∙ before-append n (drop count old)
          ∙ rw c;
    }
