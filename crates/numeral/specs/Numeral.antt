-- Numerals, as the paper has them: "A numeral is digits with no sign and no leading zero, except `0` itself."
-- Here as a reading, and as the writing of a number. That the reading decides the grammar (`Grammar`), and that reading and writing
-- undo one another, is shown in `proofs/Laws`. Texts are bytes in ASCII, a number may be of any size. Assumes nothing.
use Rattle.std.specs.Prelude.{ℕ, zero, suc, ◌+◌, ◌*◌, ◌-◌, ◌/◌, ◌%◌, Bool, false, cond, ◌&&◌, List, [], ◌∷◌, leb, ltb, eqb, None, Option, Some}

-- the byte of the digit 0
abbrev pub ZERO : ℕ
ZERO = 0x30

-- the byte of the digit 9
abbrev pub NINE : ℕ
NINE = 0x39

-- one more digit behind a number
abbrev pub with_digit : ℕ → ℕ → ℕ
with_digit m b = 10 * m + (b - ZERO)

-- the number that digits make behind a number m
unfoldable pub digits_from : ℕ → List ℕ → Option ℕ
digits_from m [] = Some m
digits_from m (b ∷ s) =
    let more = digits_from (with_digit m b) s in
    cond (leb ZERO b && leb b NINE) more None

-- whether a zero leads, in front of something
unfoldable pub leading_zero : List ℕ → Bool
leading_zero [] = false
leading_zero (b ∷ []) = false
leading_zero (b ∷ c ∷ s) = eqb b ZERO

-- the number that a text is the numeral of
unfoldable pub number : List ℕ → Option ℕ
number [] = None
number (b ∷ s) =
    let read = digits_from 0 (b ∷ s) in
    cond (leading_zero (b ∷ s)) None read

-- the number, if it is from least to most
unfoldable pub within : ℕ → ℕ → Option ℕ → Option ℕ
within least most None = None
within least most (Some n) = cond (leb least n && leb n most) (Some n) None

-- the digits of n and then the text t, where n has at most k + 1 digits
unfoldable pub digits_before : ℕ → ℕ → List ℕ → List ℕ
digits_before zero n t = (ZERO + n % 10) ∷ t
digits_before (suc k) n t =
    let u = (ZERO + n % 10) ∷ t in
    let more = digits_before k (n / 10) u in
    cond (ltb n 10) u more

-- the numeral of n
unfoldable pub digits : ℕ → List ℕ
digits n = digits_before n n []
