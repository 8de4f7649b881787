-- Laws of the first of several that is there, by parts of their list. Assumes nothing.
use Rattle.std.specs.Prelude.{None, Option, Some}
use Prim.Native.Nat.{ℕ}
use mathlib.Core.Path.{◌≡◌, refl}
use mathlib.Core.List.{List, [], ◌∷◌, ◌++◌}
use native.Mathlib.Omega.{arith}
use Rattle.base.specs.Search.{first_of}

module _ {A : Type 0} where
  pub first-of-one : (o : Option A) → first_of (o ∷ []) ≡ o
  unfolding first_of
  first-of-one None = refl
  first-of-one (Some x) = refl

  pub first-of-here : (o : Option A) (x : A) (os : List (Option A)) → o ≡ Some x → first_of (o ∷ os) ≡ Some x
  unfolding first_of
  first-of-here o x os e = rw e

  pub first-of-later : (o : Option A) (os : List (Option A)) → o ≡ None → first_of (o ∷ os) ≡ first_of os
  unfolding first_of
  first-of-later o os e = rw e

  -- where a part has one
  pub first-of-part : (os ps : List (Option A)) (x : A) → first_of os ≡ Some x → first_of (os ++ ps) ≡ Some x
  unfolding first_of
  first-of-part [] ps x e = let z : ◌≡◌ {A = ℕ} 0 1 = cc in absurd (omega arith)
  first-of-part (None ∷ os) ps x e = first-of-part os ps x e
  first-of-part (Some y ∷ os) ps x e = e

  -- where it has none
  pub first-of-rest : (os ps : List (Option A)) → first_of os ≡ None → first_of (os ++ ps) ≡ first_of ps
  unfolding first_of
  first-of-rest [] ps e = refl
  first-of-rest (None ∷ os) ps e = first-of-rest os ps e
  first-of-rest (Some x ∷ os) ps e = let z : ◌≡◌ {A = ℕ} 0 1 = cc in absurd (omega arith)

  -- a part counts by its first
  pub first-of-between : (os bs ps : List (Option A)) → first_of (os ++ (bs ++ ps)) ≡ first_of (os ++ (first_of bs ∷ ps))
  unfolding first_of
  first-of-between [] [] ps = refl
  first-of-between [] (None ∷ bs) ps = first-of-between [] bs ps
  first-of-between [] (Some x ∷ bs) ps = refl
  first-of-between (None ∷ os) bs ps = first-of-between os bs ps
  first-of-between (Some x ∷ os) bs ps = refl

  pub first-of-parts-none : (os ps : List (Option A)) → first_of (os ++ ps) ≡ None → (first_of os ≡ None) × (first_of ps ≡ None)
  unfolding first_of
  first-of-parts-none [] ps e = (refl, e)
  first-of-parts-none (None ∷ os) ps e = first-of-parts-none os ps e
  first-of-parts-none (Some x ∷ os) ps e = let z : ◌≡◌ {A = ℕ} 0 1 = cc in absurd (omega arith)
