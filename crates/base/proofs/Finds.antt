-- Steps of the searches that answer whether some element passes a test, which is the first and which they all are. Assumes
-- nothing.
use Rattle.std.specs.Prelude.{None, Some}
use mathlib.Core.Path.{◌≡◌, refl}
use mathlib.Core.Bool.{Bool, true, false}
use mathlib.Core.List.{List, [], ◌∷◌}
use Rattle.base.specs.Search.{any, find, those}

module _ {A : Type 0} (p : A → Bool) where
  pub any_none : any p [] ≡ false
  unfolding any
  any_none = refl

  pub any_here : (x : A) (xs : List A) → p x ≡ true → any p (x ∷ xs) ≡ true
  unfolding any
  any_here x xs e = simp e

  pub any-later : (x : A) (xs : List A) → p x ≡ false → any p (x ∷ xs) ≡ any p xs
  unfolding any
  any-later x xs e = simp e

  pub find_none : find p [] ≡ None
  unfolding find
  find_none = refl

  pub find-here : (x : A) (xs : List A) → p x ≡ true → find p (x ∷ xs) ≡ Some x
  unfolding find
  find-here x xs e = simp e

  pub find-later : (x : A) (xs : List A) → p x ≡ false → find p (x ∷ xs) ≡ find p xs
  unfolding find
  find-later x xs e = simp e

  pub those-none : those p [] ≡ []
  unfolding those
  those-none = refl

  pub those-here : (x : A) (xs : List A) → p x ≡ true → those p (x ∷ xs) ≡ x ∷ those p xs
  unfolding those
  those-here x xs e = simp e

  pub those-later : (x : A) (xs : List A) → p x ≡ false → those p (x ∷ xs) ≡ those p xs
  unfolding those
  those-later x xs e = simp e
