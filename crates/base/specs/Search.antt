-- Searches of a list, by a test. Assumes nothing.
use Rattle.std.specs.Prelude.{ℕ, suc, Bool, false, cond, ◌||◌, List, [], ◌∷◌, None, Option, Some}

module _ {A : Type 0} (p : A → Bool) where
  -- the number of the first element that passes the test, where the list's first has the number k
  unfoldable pub first : ℕ → List A → Option ℕ
  first k [] = None
  first k (x ∷ xs) =
      let more = first (suc k) xs in
      cond (p x) (Some k) more

  -- whether some element passes the test
  unfoldable pub any : List A → Bool
  any [] = false
  any (x ∷ xs) = p x || any xs

  -- the first element that passes the test
  unfoldable pub find : List A → Option A
  find [] = None
  find (x ∷ xs) =
      let more = find xs in
      cond (p x) (Some x) more

  -- the elements that pass the test
  unfoldable pub those : List A → List A
  those [] = []
  those (x ∷ xs) =
      let more = those xs in
      cond (p x) (x ∷ more) more

-- the number of the first element that is at odds with an earlier one, where the list's first has the number k and `seen`
-- came before it
unfoldable pub first_at_odds : {A : Type 0} → (A → A → Bool) → List A → ℕ → List A → Option ℕ
first_at_odds odds seen k [] = None
first_at_odds odds seen k (x ∷ xs) =
    let more = first_at_odds odds (x ∷ seen) (suc k) xs in
    cond (any (odds x) seen) (Some k) more

-- the first of several that is there
unfoldable pub first_of : {A : Type 0} → List (Option A) → Option A
first_of [] = None
first_of (None ∷ os) = first_of os
first_of (Some x ∷ os) = Some x

-- every element has a property
pub data All {A : Type 0} (P : A → Type 0) : List A → Type 0 where
  all_none : All P []
  all_more : {x : A} {xs : List A} → P x → All P xs → All P (x ∷ xs)
