-- Fields as parts of a file: where the text of a field that stands at the start of some bytes ends, its quotes included,
-- and what is left unread behind it. Assumes nothing; that these are the fields of a file by RFC 4180 is shown in
-- `proofs/Parts`.
use Rattle.std.specs.Prelude.{ℕ, zero, suc, ◌+◌, ◌-◌, Bool, false, cond, ◌&&◌, ◌||◌, not, List, [], ◌∷◌, eqb, length, get_or, take, drop}
use Rattle.csv_text.specs.Bytes.{COMMA, CR, DQUOTE}

-- whether the byte behind b stands inside quotes
abbrev pub turned : Bool → ℕ → Bool
turned inside b = cond (eqb b DQUOTE) (not inside) inside

-- whether a byte is the separator behind a field
abbrev pub ends_field : Bool → ℕ → Bool
ends_field inside b = not inside && (eqb b COMMA || eqb b CR)

-- how many bytes, inside quotes or not, stand before the separator or the end
unfoldable pub extent : Bool → List ℕ → ℕ
extent inside [] = 0
extent inside (b ∷ s) =
    let more = suc (extent (turned inside b) s) in
    cond (ends_field inside b) 0 more

-- what is left unread behind a field of n bytes at the start of some bytes, and behind its COMMA or CR LF
unfoldable pub unread : List ℕ → ℕ → List ℕ
unread s n = drop (n + cond (eqb (get_or s n 0) COMMA) 1 2) s

-- a field's text without the quotes around it; doubled quotes stay doubled
unfoldable pub inner : List ℕ → List ℕ
inner [] = []
inner (b ∷ s) = cond (eqb b DQUOTE) (take (length s - 1) s) (b ∷ s)

-- the first k fields of some bytes, without the quotes around them
unfoldable pub texts : ℕ → List ℕ → List (List ℕ)
texts zero s = []
texts (suc k) s = inner (take (extent false s) s) ∷ texts k (unread s (extent false s))

-- what is left unread behind k fields
unfoldable pub passed : ℕ → List ℕ → List ℕ
passed zero s = s
passed (suc k) s = passed k (unread s (extent false s))

-- the first k records of some bytes, of n fields each
unfoldable pub record_texts : ℕ → ℕ → List ℕ → List (List (List ℕ))
record_texts n zero s = []
record_texts n (suc k) s = texts n s ∷ record_texts n k (passed n s)
