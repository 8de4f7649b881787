-- Laws of the tests on a byte. Assumes nothing.
use Prim.Native.Nat.{ℕ, ◌≤◌, ◌<◌}
use mathlib.Core.Path.{◌≡◌}
use mathlib.Core.Logic.{⊎_elim}
use native.Mathlib.Omega.{arith}
use lib.Dec.{leb}
use borrow.Author.Tests.{le-leb, lt-leb}
use Rattle.base.proofs.Tests.{lt-or-ge}
use Rattle.csv_text.specs.Records.{textdata}
use Rattle.csv_text.specs.Bytes.{COMMA, DQUOTE}

-- from the space on, TEXTDATA ends at 0x7E, but for its two gaps
pub textdata-from-space :
    (b : ℕ) → 0x20 ≤ b → (b ≡ DQUOTE → ⊥) → (b ≡ COMMA → ⊥) → leb b 0x7E ≡ textdata b
textdata-from-space b low quote comma = ⊎_elim below (λ h. ⊎_elim (between h) above (lt-or-ge b COMMA)) (lt-or-ge b DQUOTE)
  where
    below : b < DQUOTE → leb b 0x7E ≡ textdata b
    below h = simp (le-leb 0x20 b low, le-leb b 0x21 (omega arith), le-leb b 0x7E (omega arith))

    between : DQUOTE ≤ b → b < COMMA → leb b 0x7E ≡ textdata b
    between h k =
        simp
        (le-leb 0x20 b low, lt-leb b 0x21 (omega arith), le-leb 0x23 b (omega arith), le-leb b 0x2B (omega arith), le-leb b 0x7E (omega arith))

    above : COMMA ≤ b → leb b 0x7E ≡ textdata b
    above h =
        simp
        (le-leb 0x20 b low, lt-leb b 0x21 (omega arith), le-leb 0x23 b (omega arith), lt-leb b 0x2B (omega arith), le-leb 0x2D b (omega arith))
