-- Texts as the bytes of a file. Assumes nothing.
use Rattle.std.specs.Prelude.{ℕ, eqb, length, drop, Bool, true, false, ◌&&◌, List, [], ◌∷◌, ◌++◌}
use Prim.Native.Char.{code}
use Prim.Native.String.{String, [] as ε, ◌∷◌ as ◌then◌}

-- the bytes of a text in ASCII
abbrev pub bytes : String → List ℕ
bytes ε = []
bytes (c then s) = code c ∷ bytes s

-- whether two texts are the same, byte by byte
unfoldable pub same : List ℕ → List ℕ → Bool
same [] [] = true
same [] (c ∷ t) = false
same (b ∷ s) [] = false
same (b ∷ s) (c ∷ t) = eqb b c && same s t

-- the texts of some elements, one behind the other
module _ {A : Type 0} (text : A → List ℕ) where
  unfoldable pub together : List A → List ℕ
  together [] = []
  together (x ∷ xs) = text x ++ together xs

-- the bytes of a buffer once a text is written from its start: "Bytes past the answer stay"
unfoldable pub written : List ℕ → List ℕ → List ℕ
written text buffer = text ++ drop (length text) buffer
