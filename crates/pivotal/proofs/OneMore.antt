-- Laws of amounts with one more behind them. Assumes nothing.
use Prim.Native.Nat.{ℕ, zero, suc, ◌+◌}
use mathlib.Core.Path.{◌≡◌, refl, sym, ap}
use mathlib.Core.Bool.{cond, ◌||◌, or-false, or_assoc}
use mathlib.Core.List.{List, [], ◌∷◌, ◌++◌}
use native.Mathlib.Omega.{arith}
use lib.Dec.{eqb, ltb, eqb-suc-suc, eqb-zero-suc}
use lib.ListN.{length, set, length-append}
use borrow.Author.Tests.{ne_eqb}
use Rattle.pivotal.specs.Test.{total, largest_with, largest_after, most_amount, too_large}
use Rattle.pivotal.specs.declared.feeding.Largest.{Largest}
use Rattle.pivotal.proofs.Limits.{Unlimited, too_many, one_too_large}

-- amounts with one more behind them
abbrev pub more : List ℕ → ℕ → List ℕ
more s a = s ++ a ∷ []

pub total-more : (s : List ℕ) (a : ℕ) → total (more s a) ≡ total s + a
unfolding total
total-more [] a = omega arith
total-more (b ∷ s) a = omega (arith, total-more s a)

pub largest-more : (l : Largest) (s : List ℕ) (a : ℕ) → largest_after l (more s a) ≡ largest_with (largest_after l s) a
unfolding largest_after
largest-more l [] a = refl
largest-more l (b ∷ s) a = largest-more (largest_with l b) s a

pub length_more : (s : List ℕ) (a : ℕ) → length (more s a) ≡ length s + 1
length_more s a = length-append s (a ∷ [])

-- an amount more takes none away
pub set_more : (s : List ℕ) (a p : ℕ) → set (more s a) p 0 ≡ more (set s p 0) (cond (eqb (length s) p) 0 a)
set_more [] a zero = refl
set_more [] a (suc p) = rw eqb-zero-suc refl
set_more (b ∷ s) a zero = rw (ne_eqb (suc (length s)) 0 (λ e. absurd (omega arith))) refl
set_more (b ∷ s) a (suc p) = rw eqb-suc-suc (ap (λ (t : List ℕ). b ∷ t) (set_more s a p))

pub large-more : (s : List ℕ) (a : ℕ) → too_large (more s a) ≡ (too_large s || ltb most_amount a)
unfolding too_large
large-more [] a = or-false (ltb most_amount a)
large-more (b ∷ s) a = rw (large-more s a) (sym (or_assoc (ltb most_amount b) (too_large s) (ltb most_amount a)))

pub unlimited-more : (s : List ℕ) (a : ℕ) → Unlimited s → Unlimited (more s a)
unlimited-more s a (too_many h) = too_many (omega (arith, length_more s a))
unlimited-more s a (one_too_large e) = one_too_large (rw (large-more s a, e) refl)
