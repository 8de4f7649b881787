-- Reading a file by RFC 4180, one byte after the other: whether it is one, and its records of unquoted fields.
-- That this is the RFC's grammar (`Grammar`) is shown in `proofs/Decides`. Assumes nothing.
use Rattle.std.specs.Prelude.{ℕ, Bool, true, false, cond, ◌&&◌, ◌||◌, List, [], ◌∷◌, leb, eqb}
use Rattle.csv_text.specs.Bytes.{COMMA, CR, DQUOTE, LF}

-- where the next byte stands
pub data State : Type 0 where
  begin : State  -- a field begins
  plain : State  -- in a non-escaped field
  quoted : State  -- in an escaped field
  closing : State  -- behind a DQUOTE in an escaped field: the one that closes it, or the first of two
  ended : State  -- behind the CR that ends a record
  broken : State  -- the file is not RFC 4180

abbrev pub textdata : ℕ → Bool
textdata b = leb 0x20 b && leb b 0x21 || leb 0x23 b && leb b 0x2B || leb 0x2D b && leb b 0x7E

-- what may follow a field: its separator
abbrev pub after_field : ℕ → State
after_field b = cond (eqb b COMMA) begin (cond (eqb b CR) ended broken)

unfoldable pub next : State → ℕ → State
next begin b = cond (eqb b DQUOTE) quoted (cond (textdata b) plain (after_field b))
next plain b = cond (textdata b) plain (after_field b)
next quoted b = cond (eqb b DQUOTE) closing (cond (textdata b || eqb b COMMA || eqb b CR || eqb b LF) quoted broken)
next closing b = cond (eqb b DQUOTE) quoted (after_field b)
next ended b = cond (eqb b LF) begin broken
next broken b = broken

-- whether a file may end there
abbrev pub final : State → Bool
final begin = true
final plain = true
final quoted = false
final closing = true
final ended = false
final broken = false

-- whether what stands at a state is the rest of a file by RFC 4180
unfoldable pub regular : State → List ℕ → Bool
regular q [] = final q
regular q (b ∷ s) = regular (next q b) s

-- the rest of a file, of which a field is begun: the rest of that field, the further fields of its record, the further
-- records
pub record Rest : Type 0 where
  pub field : List ℕ
  pub fields : List (List ℕ)
  pub records : List (List (List ℕ))

-- the end of a file
abbrev pub end : Rest
end = record { field = []; fields = []; records = [] }

-- one more byte of the field
abbrev pub byte : ℕ → Rest → Rest
byte b r = record { field = b ∷ r.field; fields = r.fields; records = r.records }

-- a COMMA: one more field
abbrev pub comma : Rest → Rest
comma r = record { field = []; fields = r.field ∷ r.fields; records = r.records }

-- a CR LF and what stands behind it: one more record, unless that is the file's end
abbrev pub crlf : List ℕ → Rest → Rest
crlf [] r = end
crlf (b ∷ s) r = record { field = []; fields = []; records = (r.field ∷ r.fields) ∷ r.records }

-- what the byte b at a state adds to the rest r, read from the bytes s behind it
unfoldable pub grown : State → ℕ → List ℕ → Rest → Rest
grown begin b s r = cond (eqb b COMMA) (comma r) (cond (textdata b) (byte b r) r)
grown plain b s r = cond (eqb b COMMA) (comma r) (cond (textdata b) (byte b r) r)
grown quoted b s r = cond (eqb b DQUOTE) r (byte b r)
grown closing b s r = cond (eqb b DQUOTE) (byte b r) (cond (eqb b COMMA) (comma r) r)
grown ended b s r = crlf s r
grown broken b s r = r

unfoldable pub rest : State → List ℕ → Rest
rest q [] = end
rest q (b ∷ s) = grown q b s (rest (next q b) s)

-- whether a file is RFC 4180
unfoldable pub rfc4180 : List ℕ → Bool
rfc4180 s = regular begin s

-- the records of a file, each its fields, unquoted
unfoldable pub records : List ℕ → List (List (List ℕ))
records s =
    let r = rest begin s in
    (r.field ∷ r.fields) ∷ r.records
