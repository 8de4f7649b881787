-- What copying a file without its quotes gives, of any bytes. Assumes nothing; `proofs/CopyLaws` shows that it is the tidy file where
-- the file is not refused.
use Rattle.std.specs.Prelude.{ℕ, suc, ◌-◌, ◌≡◌, cond, List, [], ◌∷◌, ◌++◌, eqb, length, get_or, take}
use Rattle.base.specs.Text.{together}
use Rattle.base.specs.promises.Writing.{Wrote}
use Rattle.csv_text.specs.Bytes.{CR, DQUOTE, LF}

-- a byte, unless it is a quote
unfoldable pub kept : ℕ → List ℕ
kept b = cond (eqb b DQUOTE) [] (b ∷ [])

unfoldable pub unquoted : List ℕ → List ℕ
unquoted s = together kept s

-- the CR LF behind the last record, where it has none
unfoldable pub last_end : List ℕ → List ℕ
last_end s = cond (eqb (get_or s (length s - 1) 0) LF) [] (CR ∷ LF ∷ [])

unfoldable pub copied : List ℕ → List ℕ
copied s = unquoted s ++ last_end s

-- how many bytes the first line has, its LF included
unfoldable pub line_length : List ℕ → ℕ
line_length [] = 0
line_length (b ∷ s) = let more = line_length s in cond (eqb b LF) 1 (suc more)

-- the first line, unquoted, stands at the start of the buffer
pub record LineWritten (s old new : List ℕ) (read written : ℕ) : Type 0 where
  pub first : read ≡ line_length s
  pub wrote : Wrote (unquoted (take read s)) written old new
