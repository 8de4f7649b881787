-- Laws of the two sides of the first stop in a text, over plain lists. Assumes nothing.
use Prim.Native.Nat.{ℕ, zero, suc, ◌+◌, ◌-◌, ◌<◌, min}
use mathlib.Core.Path.{◌≡◌, refl, ap, ◌∙◌}
use mathlib.Core.Bool.{Bool, true, false, cond}
use mathlib.Core.List.{List, [], ◌∷◌}
use native.Mathlib.Omega.{arith}
use native.Mathlib.Numerals.{add-one}
use lib.Dec.{eqb}
use lib.ListN.{length, get_or, take, drop}
use lib.Seq.{drop-cons, drop-length}
use Rattle.base.proofs.Lists.{rest-lent}
use Rattle.texts.specs.promises.Parting.{before, past, past_place}

module _ (stop : ℕ) where
  -- what is before the first stop of what is left, one byte on and at the stop
  pub before-step :
      (s : List ℕ) (i : ℕ) → i < length s →
      before stop (drop i s) ≡ cond (eqb (get_or s i 0) stop) [] (get_or s i 0 ∷ before stop (drop (i + 1) s))
  unfolding before
  before-step s i h = rw (drop-cons s i 0 h, add-one i) refl

  pub before-on :
      (s : List ℕ) (i : ℕ) → i < length s → eqb (get_or s i 0) stop ≡ false →
      length (before stop (drop i s)) ≡ suc (length (before stop (drop (i + 1) s)))
  before-on s i h e = rw (before-step s i h, e) refl

  pub before-here :
      (s : List ℕ) (i : ℕ) → i < length s → eqb (get_or s i 0) stop ≡ true → length (before stop (drop i s)) ≡ 0
  before-here s i h e = rw (before-step s i h, e) refl

  pub before-end : (s : List ℕ) → length (before stop (drop (length s) s)) ≡ 0
  unfolding before
  before-end s = rw (drop-length s) refl

  take-before : (s : List ℕ) → take (length (before stop s)) s ≡ before stop s
  unfolding before
  take-before [] = refl
  take-before (b ∷ s) = step (eqb b stop) (take-before s)
    where
      step :
          (t : Bool) → take (length (before stop s)) s ≡ before stop s →
          take (length (cond t [] (b ∷ before stop s))) (b ∷ s) ≡ cond t [] (b ∷ before stop s)
      step true e = refl
      step false e = ap (λ (l : List ℕ). b ∷ l) e

  drop_past : (s : List ℕ) (k : ℕ) → k ≡ past_place stop s → drop k s ≡ past stop s
  unfolding before past
  drop_past [] zero e = refl
  drop_past [] (suc k) e = refl
  drop_past (b ∷ s) zero e = absurd (omega arith)
  drop_past (b ∷ s) (suc k) e = step (eqb b stop) e (drop_past s k)
    where
      step :
          (t : Bool) → suc k ≡ min (length (cond t [] (b ∷ before stop s)) + 1) (suc (length s)) →
          (k ≡ past_place stop s → drop k s ≡ past stop s) → drop k s ≡ cond t s (past stop s)
      step true h more = let none : k ≡ 0 = omega arith in rw none
      step false h more = more (omega arith)

  -- the part of a text up to a place, and the part from a place on, as slices have them
  module _ (s : List ℕ) (k : ℕ) where
    pub part-before : k ≡ length (before stop s) → take (k - 0) s ≡ before stop s
    part-before e = let upto : k - 0 ≡ length (before stop s) = omega arith in rw upto (take-before s)

    pub part-past : k ≡ past_place stop s → take (length s - k) (drop k s) ≡ past stop s
    part-past e = rest-lent k s ∙ drop_past s k e
