-- Writes as the code makes them: the parts of a row from numbers as the code has them, and that they fit. Assumes nothing.
use Prim.Native.Nat.{ℕ, ◌+◌, ◌≤◌, ◌<◌}
use mathlib.Core.Path.{◌≡◌, ap}
use mathlib.Core.List.{List, [], ◌∷◌, append_assoc}
use native.Mathlib.Omega.{arith}
use lib.ListN.{length, set, length-set}
use Rattle.base.specs.promises.Writing.{Wrote}
use Rattle.base.proofs.Writers.{wrote_none, wrote-byte}
use Rattle.numeral.specs.Numeral.{digits}
use Rattle.answer.specs.promises.Parts.{number_field, letter_field, last_field}
use Rattle.csv_text.specs.Bytes.{COMMA}
use Rattle.answer.proofs.LineLaws.{number-length, last-length}

-- the parts of a row, from numbers as the code has them
pub wrote-number :
    {old mid : List ℕ} {m n x comma : ℕ} → n ≡ x → comma ≡ COMMA → m < length mid → Wrote (digits n) m old mid →
    Wrote (number_field x) (m + 1) old (set mid m comma)
unfolding number_field
wrote-number e f h w = rw (← e, f) (wrote-byte COMMA h w)

pub wrote-letter :
    {old : List ℕ} {b x comma : ℕ} → b ≡ x → comma ≡ COMMA → 2 ≤ length old → Wrote (letter_field x) 2 old (set (set old 0 b) 1 comma)
unfolding letter_field
wrote-letter {old} {b} e f h =
    let first : Wrote (b ∷ []) 1 old (set old 0 b) = wrote-byte b (omega arith) (wrote_none old) in
    rw (← e, f) (wrote-byte COMMA (omega (arith, length-set old 0 b)) first)

pub wrote-last :
    {old mid : List ℕ} {m n x cr lf count : ℕ} →
    n ≡ x → cr ≡ 0x0D → lf ≡ 0x0A → count ≡ m + 2 → m + 1 < length mid → Wrote (digits n) m old mid →
    Wrote (last_field x) count old (set (set mid m cr) (m + 1) lf)
unfolding last_field
wrote-last {mid} {m} {n} {cr} {lf} {count} e f g k h w =
    let both = wrote-byte lf (omega (arith, length-set mid m cr)) (wrote-byte cr (omega arith) w) in
    let same : m + 1 + 1 ≡ count = omega arith in
    rw (← e, ← f, ← g) (rw (same, append_assoc (digits n) (cr ∷ []) (lf ∷ [])) at both)

-- what is written fits
pub number-room :
    {old mid : List ℕ} {m n x k : ℕ} → n ≡ x → Wrote (digits n) m old mid → length (number_field x) ≤ k → m + 1 ≤ k
number-room {n} {x} e w h =
    let same : length (digits n) ≡ length (digits x) = ap (λ (i : ℕ). length (digits i)) e in
    omega (arith, w.counted, number-length x)

pub last-room : {old mid : List ℕ} {m n x k : ℕ} → n ≡ x → Wrote (digits n) m old mid → length (last_field x) ≤ k → m + 2 ≤ k
last-room {n} {x} e w h =
    let same : length (digits n) ≡ length (digits x) = ap (λ (i : ℕ). length (digits i)) e in
    omega (arith, w.counted, last-length x)
