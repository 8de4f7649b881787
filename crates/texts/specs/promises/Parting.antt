-- What taking a text apart promises: the bytes on either side of its first stop, a stop being any one byte. Assumes nothing.
use Rattle.std.specs.Prelude.{ℕ, ◌+◌, min, cond, List, [], ◌∷◌, eqb, length}

module _ (stop : ℕ) where
  -- the bytes before the first stop, all where there is none
  unfoldable pub before : List ℕ → List ℕ
  before [] = []
  before (b ∷ s) = cond (eqb b stop) [] (b ∷ before s)

  -- the bytes behind the first stop, none where there is none
  unfoldable pub past : List ℕ → List ℕ
  past [] = []
  past (b ∷ s) = cond (eqb b stop) s (past s)

  -- where the bytes behind the first stop begin, at the end where there is none
  abbrev pub past_place : List ℕ → ℕ
  past_place s = min (length (before s) + 1) (length s)
