-- What asking a line promises: which lines of a text begin a case. Assumes nothing.
use Rattle.std.specs.Prelude.{ℕ, Bool, false, not, ◌||◌, List, [], ◌∷◌, eqb}
use Prim.Native.Char.{code}

-- whether a line begins a case: it has a first byte, and that is neither a blank, with which a line goes on with the case
-- above it, nor the `#` of a comment
unfoldable pub is_case : List ℕ → Bool
is_case [] = false
is_case (b ∷ s) = not (eqb b (code " ") || eqb b (code "#"))
