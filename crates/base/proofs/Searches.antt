-- Laws of searches. Assumes nothing.
use Rattle.std.specs.Prelude.{None, Option, Some, option_map}
use Prim.Native.Nat.{ℕ, zero, suc, ◌+◌, ◌≤◌}
use mathlib.Core.Path.{◌≡◌, refl, ap}
use mathlib.Core.Logic.{⊎_elim}
use mathlib.Core.Bool.{Bool, true, false, cond, ◌&&◌, not}
use mathlib.Core.List.{List, [], ◌∷◌}
use native.Mathlib.Omega.{arith}
use lib.Dec.{eqb, eqb-zero-suc, eqb-suc-suc}
use lib.ListN.{length, drop}
use borrow.Author.Tests.{eq-eqb, ne_eqb}
use Rattle.base.specs.Search.{first, first_of, All, all_none, all_more}
use Rattle.base.specs.promises.Counting.{one, leading}
use Rattle.base.proofs.Tests.{either, eq-or-ne}

module _ {A : Type 0} (p : A → Bool) where
  -- the four steps of a search: nothing is left, the next element passes, it doesn't, and what was searched is spent
  pub first-none : (k : ℕ) → first p k [] ≡ None
  unfolding first
  first-none k = refl

  pub first-here : (k : ℕ) (x : A) (xs : List A) → p x ≡ true → first p k (x ∷ xs) ≡ Some k
  unfolding first
  first-here k x xs e = simp e

  pub first-later : (k : ℕ) (x : A) (xs : List A) → p x ≡ false → first p k (x ∷ xs) ≡ first p (suc k) xs
  unfolding first
  first-later k x xs e = simp e

-- how many elements pass, and the first that doesn't
module _ {A : Type 0} (p : A → Bool) where
  pub leading_le : (xs : List A) → leading p xs ≤ length xs
  unfolding leading
  leading_le [] = omega arith
  leading_le (x ∷ xs) = go (p x) (leading_le xs)
    where
      go : (t : Bool) → leading p xs ≤ length xs → cond t (suc (leading p xs)) 0 ≤ suc (length xs)
      go true h = omega arith
      go false h = omega arith

  pub first-leading :
      (k : ℕ) (xs : List A) →
      first (λ (x : A). not (p x)) k xs ≡ cond (eqb (leading p xs) (length xs)) None (Some (k + leading p xs))
  unfolding first leading
  first-leading k [] = refl
  first-leading k (x ∷ xs) = go (p x) (first-leading (suc k) xs)
    where
      later : Option ℕ
      later = first (λ (x : A). not (p x)) (suc k) xs

      more : ℕ
      more = leading p xs

      go :
          (t : Bool) → later ≡ cond (eqb more (length xs)) None (Some (suc k + more)) →
          cond (not t) (Some k) later
          ≡ cond (eqb (cond t (suc more) 0) (suc (length xs))) None (Some (k + cond t (suc more) 0))
      go true ih =
          let place : k + suc more ≡ suc k + more = omega arith in
          rw (eqb-suc-suc, place) ih
      go false ih = rw eqb-zero-suc (ap Some (omega arith))

pub one-le : (t : Bool) → one t ≤ 1
one-le true = omega arith
one-le false = omega arith

-- A count that is kept as elements come, one after the other: of `done` elements the first `run` pass the test, and all
-- do where the two are the same.
module _ {A : Type 0} (p : A → Bool) where
  -- the count once the elements xs have come too
  unfoldable pub joined : ℕ → ℕ → List A → ℕ
  joined run done xs = cond (eqb run done) (run + leading p xs) run

  pub joined-none : (run done : ℕ) → joined run done [] ≡ run
  unfolding joined leading
  joined-none run done = go (eqb run done)
    where
      go : (x : Bool) → cond x (run + 0) run ≡ run
      go true = omega arith
      go false = refl

  pub joined-more :
      (run done : ℕ) (x : A) (xs : List A) → run ≤ done →
      joined (run + one (eqb run done && p x)) (done + 1) xs ≡ joined run done (x ∷ xs)
  unfolding joined leading
  joined-more run done x xs le = ⊎_elim same other (eq-or-ne run done)
    where
      Goal : Type 0
      Goal = joined (run + one (eqb run done && p x)) (done + 1) xs ≡ joined run done (x ∷ xs)

      other : (run ≡ done → ⊥) → Goal
      other e = simp (ne_eqb run done e, ne_eqb (run + 0) (done + 1) (omega arith)) (omega arith)

      passes : run ≡ done → p x ≡ true → Goal
      passes e f = simp (eq-eqb run done e, f, eq-eqb (run + 1) (done + 1) (omega arith)) (omega arith)

      fails : run ≡ done → p x ≡ false → Goal
      fails e f = simp (eq-eqb run done e, f, ne_eqb (run + 0) (done + 1) (omega arith)) (omega arith)

      same : run ≡ done → Goal
      same e = ⊎_elim (passes e) (fails e) (either (p x))

-- what every element has, each rest of the list has
pub all_drop : {A : Type 0} {P : A → Type 0} {xs : List A} (i : ℕ) → All P xs → All P (drop i xs)
all_drop zero a = a
all_drop (suc i) all_none = all_none
all_drop (suc i) (all_more p a) = all_drop i a

pub all_head : {A : Type 0} {P : A → Type 0} {x : A} {xs : List A} → All P (x ∷ xs) → P x
all_head (all_more p a) = p

-- where a search finds nothing, nothing was there
pub first-of-none :
    {A : Type 0} (o : Option A) (os : List (Option A)) → first_of (o ∷ os) ≡ None → (o ≡ None) × (first_of os ≡ None)
unfolding first_of
first-of-none None os e = (refl, e)
first-of-none (Some x) os e = let z : ◌≡◌ {A = ℕ} 0 1 = cc in absurd (omega arith)

pub option-map-none : {A B : Type 0} (f : A → B) (o : Option A) → option_map f o ≡ None → o ≡ None
option-map-none f None e = refl
option-map-none f (Some x) e = let z : ◌≡◌ {A = ℕ} 0 1 = cc in absurd (omega arith)

pub first-none-all :
    {A : Type 0} (p : A → Bool) (k : ℕ) (xs : List A) → first (λ (x : A). not (p x)) k xs ≡ None →
    All (λ (x : A). p x ≡ true) xs
unfolding first
first-none-all p k [] e = all_none
first-none-all {A} p k (x ∷ xs) e = go (p x) refl (first-none-all p (suc k) xs) e
  where
    Later : Type 0
    Later = first (λ (x : A). not (p x)) (suc k) xs ≡ None

    go :
        (t : Bool) → p x ≡ t → (Later → All (λ (x : A). p x ≡ true) xs) →
        cond (not t) (Some k) (first (λ (x : A). not (p x)) (suc k) xs) ≡ None → All (λ (x : A). p x ≡ true) (x ∷ xs)
    go true q later e = all_more q (later e)
    go false q later e = let z : ◌≡◌ {A = ℕ} 0 1 = cc in absurd (omega arith)
