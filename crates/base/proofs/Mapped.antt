-- Searches of what a function makes of a list, by a test that doesn't see the difference. Assumes nothing.
use Prim.Native.Nat.{ℕ, suc}
use mathlib.Core.Path.{◌≡◌, refl}
use mathlib.Core.Bool.{Bool, true, false, cond}
use mathlib.Core.List.{List, [], ◌∷◌, map}
use Rattle.base.specs.Search.{any, first, those}

module _ {A : Type 0} (f : A → A) (p : A → Bool) (unseen : (x : A) → p (f x) ≡ p x) where
  pub any-made : (xs : List A) → any p (map f xs) ≡ any p xs
  unfolding any
  any-made [] = refl
  any-made (x ∷ xs) = rw (unseen x, any-made xs)

  pub first_made : (k : ℕ) (xs : List A) → first p k (map f xs) ≡ first p k xs
  unfolding first
  first_made k [] = refl
  first_made k (x ∷ xs) = rw (unseen x, first_made (suc k) xs)

  pub those-made : (xs : List A) → those p (map f xs) ≡ map f (those p xs)
  unfolding those
  those-made [] = refl
  those-made (x ∷ xs) = rw (unseen x, those-made xs) (go (p x))
    where
      go : (t : Bool) → cond t (f x ∷ map f (those p xs)) (map f (those p xs)) ≡ map f (cond t (x ∷ those p xs) (those p xs))
      go true = refl
      go false = refl
