-- What the functions on rising numbers promise of each other: where a number is to be inserted, and what putting it there
-- makes of a run. Assumes nothing.
use Rattle.std.specs.Prelude.{ℕ, suc, ◌≤◌, ◌<◌, ◌≡◌, List, ◌∷◌, ◌++◌, length, get_or, take, drop}
use Rattle.base.specs.Rising.{inserted}

-- x goes in at `at`: inserting passes all before it, and no number there is below x
pub record Placed (x : ℕ) (xs : List ℕ) (at : ℕ) : Type 0 where
  pub within : at ≤ length xs
  pub passed : inserted x xs ≡ take at xs ++ inserted x (drop at xs)
  pub stops : at < length xs → x ≤ get_or xs at 0

-- a run with x at `at`, and the numbers from there up to `count` one place further
unfoldable pub with_at : ℕ → ℕ → ℕ → List ℕ → List ℕ
with_at at count x old = take at old ++ x ∷ (drop at (take count old) ++ drop (suc count) old)
