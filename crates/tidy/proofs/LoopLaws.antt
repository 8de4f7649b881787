-- The loops of counting and of storing the bytes of a text that are no quotes. Assumes nothing.
use Prim.Native.Nat.{ℕ, ◌+◌, ◌≤◌, ◌<◌}
use mathlib.Core.Path.{◌≡◌, refl, ap}
use mathlib.Core.Bool.{Bool, true, false, cond, not}
use mathlib.Core.List.{List, [], ◌∷◌}
use native.Mathlib.Omega.{arith}
use lib.Dec.{eqb}
use lib.ListN.{length, get_or, set}
use mir.Val.{bool_byte}
use Rattle.base.proofs.Lists.{drop-next}
use Rattle.base.proofs.Together.{Counting, count_next, count-over, Writing, writing-room, writing-nothing, writing-byte}
use Rattle.csv_text.specs.Bytes.{DQUOTE}
use Rattle.tidy.specs.promises.Copying.{kept, unquoted}
use Rattle.tidy.proofs.CopyLaws.{quote-dropped, byte-kept, kept-short}

-- a test as the number that the code adds
kept-length : (b : ℕ) → bool_byte (not (eqb b DQUOTE)) ≡ length (kept b)
unfolding kept
kept-length b = go (eqb b DQUOTE)
  where
    go : (t : Bool) → bool_byte (not t) ≡ length (cond t [] (b ∷ []))
    go true = refl
    go false = refl

pub byte_small : (b : ℕ) → bool_byte (not (eqb b DQUOTE)) ≤ 1
byte_small b = omega (arith, kept-length b, kept-short b)

module _ (s : List ℕ) where
  pub byte-counted :
      {i at : ℕ} → i < length s → Counting kept s 0 1 i at →
      Counting kept s 0 1 (i + 1) (at + bool_byte (not (eqb (get_or s i 0) DQUOTE)))
  byte-counted {i} h c =
      count_next kept s (drop-next 0 i s h) (kept-length (get_or s i 0)) (byte_small (get_or s i 0)) c

  pub all-counted : {i at : ℕ} → length s ≤ i → Counting kept s 0 1 i at → at ≡ length (unquoted s)
  unfolding unquoted
  all-counted h c = omega (arith, count-over kept s h c)

  module _ (old : List ℕ) (fits : length (unquoted s) ≤ length old) where
    pub byte-room :
        {i at : ℕ} {new : List ℕ} → i < length s → (get_or s i 0 ≡ DQUOTE → ⊥) → Writing kept s old i at new → at < length new
    unfolding unquoted
    byte-room {i} h n w =
        omega (arith, writing-room kept s old fits (drop-next 0 i s h) w, ap length (byte-kept (get_or s i 0) n))

    pub byte-written :
        {i at : ℕ} {new : List ℕ} → i < length s → (get_or s i 0 ≡ DQUOTE → ⊥) → Writing kept s old i at new →
        Writing kept s old (i + 1) (at + 1) (set new at (get_or s i 0))
    unfolding unquoted
    byte-written {i} h n w =
        writing-byte kept s old fits (get_or s i 0) (drop-next 0 i s h) (byte-kept (get_or s i 0) n) w

    pub quote-passed :
        {i at : ℕ} {new : List ℕ} → i < length s → get_or s i 0 ≡ DQUOTE → Writing kept s old i at new →
        Writing kept s old (i + 1) at new
    unfolding unquoted
    quote-passed {i} h e w = writing-nothing kept s old fits (drop-next 0 i s h) (quote-dropped (get_or s i 0) e) w
