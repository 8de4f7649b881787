-- What a writer into a lent buffer promises. Assumes nothing.
use Rattle.std.specs.Prelude.{ℕ, ◌≡◌, List, ◌++◌, length, drop}

-- the text stands at the start of the buffer, its length is answered, and the bytes past it are as they were
pub record Wrote (text : List ℕ) (count : ℕ) (old new : List ℕ) : Type 0 where
  pub counted : count ≡ length text
  pub written : new ≡ text ++ drop (length text) old
