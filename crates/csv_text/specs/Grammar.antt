-- RFC 4180, section 2: the ABNF, rule by rule, in the RFC's order from `file` down, read from below.
-- A rule says of a text s that it begins with that form, of value v, and that r is the rest that follows.
-- A value is what a field holds once it is unquoted; a record's is its fields', a file's its records'.
-- Document 01 adds two sentences to the RFC, at `file` below. Assumes nothing.
use Rattle.std.specs.Prelude.{ℕ, ◌≤◌, List, [], ◌∷◌}
use Rattle.csv_text.specs.Bytes.{COMMA, CR, DQUOTE, LF}

-- TEXTDATA = %x20-21 / %x23-2B / %x2D-7E
pub data TEXTDATA (b : ℕ) : Type 0 where
  below-quote : 0x20 ≤ b → b ≤ 0x21 → TEXTDATA b
  below-comma : 0x23 ≤ b → b ≤ 0x2B → TEXTDATA b
  above-comma : 0x2D ≤ b → b ≤ 0x7E → TEXTDATA b

-- non-escaped = *TEXTDATA
pub data NonEscaped : List ℕ → List ℕ → List ℕ → Type 0 where
  none : {r : List ℕ} → NonEscaped r [] r
  text : {b : ℕ} {s v r : List ℕ} → TEXTDATA b → NonEscaped s v r → NonEscaped (b ∷ s) (b ∷ v) r

-- *(TEXTDATA / COMMA / CR / LF / 2DQUOTE) DQUOTE: what follows the DQUOTE that opens
pub data Opened : List ℕ → List ℕ → List ℕ → Type 0 where
  text : {b : ℕ} {s v r : List ℕ} → TEXTDATA b → Opened s v r → Opened (b ∷ s) (b ∷ v) r
  comma : {s v r : List ℕ} → Opened s v r → Opened (COMMA ∷ s) (COMMA ∷ v) r
  cr : {s v r : List ℕ} → Opened s v r → Opened (CR ∷ s) (CR ∷ v) r
  lf : {s v r : List ℕ} → Opened s v r → Opened (LF ∷ s) (LF ∷ v) r
  2dquote : {s v r : List ℕ} → Opened s v r → Opened (DQUOTE ∷ DQUOTE ∷ s) (DQUOTE ∷ v) r
  close : {r : List ℕ} → Opened (DQUOTE ∷ r) [] r

-- escaped = DQUOTE *(TEXTDATA / COMMA / CR / LF / 2DQUOTE) DQUOTE
pub data Escaped : List ℕ → List ℕ → List ℕ → Type 0 where
  dquote : {s v r : List ℕ} → Opened s v r → Escaped (DQUOTE ∷ s) v r

-- field = (escaped / non-escaped)
pub data Field : List ℕ → List ℕ → List ℕ → Type 0 where
  escaped : {s v r : List ℕ} → Escaped s v r → Field s v r
  non-escaped : {s v r : List ℕ} → NonEscaped s v r → Field s v r

-- record = field *(COMMA field)
pub data Record : List ℕ → List (List ℕ) → List ℕ → Type 0 where
  last : {s v r : List ℕ} → Field s v r → Record s (v ∷ []) r
  more : {s v t r : List ℕ} {vs : List (List ℕ)} → Field s v (COMMA ∷ t) → Record t vs r → Record s (v ∷ vs) r

-- file = [header CRLF] record *(CRLF record) [CRLF], where a header is a record.
-- Document 01: "Records end in CR LF; the last may lack it. A CR LF at the file's end starts no further record; an empty
-- file is one record with one blank field." The RFC leaves the first of these open: its last CRLF could also begin a
-- record with one blank field.
pub data File : List ℕ → List (List (List ℕ)) → Type 0 where
  last : {s : List ℕ} {v : List (List ℕ)} → Record s v [] → File s (v ∷ [])
  last-crlf : {s : List ℕ} {v : List (List ℕ)} → Record s v (CR ∷ LF ∷ []) → File s (v ∷ [])
  more : {s t : List ℕ} {b : ℕ} {v : List (List ℕ)} {vs : List (List (List ℕ))} →
      Record s v (CR ∷ LF ∷ b ∷ t) → File (b ∷ t) vs → File s (v ∷ vs)
