-- Different numbers out of some rows, and the place of a number. Assumes nothing.
use Rattle.std.specs.Prelude.{ℕ, List, [], ◌∷◌, eqb, unwrap_or}
use Rattle.base.specs.Rising.{inserted}
use Rattle.base.specs.Search.{first}

module _ {A : Type 0} (column : A → ℕ) where
  -- the different numbers that some rows have in a column, by rising number, beside those of the rows before
  unfoldable pub numbers_from : List ℕ → List A → List ℕ
  numbers_from xs [] = xs
  numbers_from xs (r ∷ rs) = numbers_from (inserted (column r) xs) rs

  unfoldable pub numbers_of : List A → List ℕ
  numbers_of rs = numbers_from [] rs

-- the place of a number in a list
unfoldable pub place_of : ℕ → List ℕ → ℕ
place_of k ks = unwrap_or (first (λ (j : ℕ). eqb j k) 0 ks) 0
