-- Records one behind the other in a text, as a pass over a file finds them. Assumes nothing.
use Rattle.std.specs.Prelude.{ℕ, List, [], ◌∷◌}
use Rattle.csv_text.specs.Grammar.{Record}
use Rattle.csv_text.specs.Bytes.{CR, LF}

-- the record's end r, and what is left unread behind it
pub data Breaks : List ℕ → List ℕ → Type 0 where
  at-end : Breaks [] []
  crlf : {t : List ℕ} → Breaks (CR ∷ LF ∷ t) t

-- s is records of some values, and then r
pub data Rows : List ℕ → List (List (List ℕ)) → List ℕ → Type 0 where
  none : {s : List ℕ} → Rows s [] s
  more :
      {b : ℕ} {s e t r : List ℕ} {v : List (List ℕ)} {vs : List (List (List ℕ))} →
      Record (b ∷ s) v e → Breaks e t → Rows t vs r → Rows (b ∷ s) (v ∷ vs) r
