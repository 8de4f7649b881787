-- Document 02, F-1: "Add a writer for one file that 1 to 6 pass on its own: unquoted, CR LF after each record, header, then rows in
-- their order." Here the tidy file of some rows, and the whole outcome of a call, for any bytes and any lent buffer. Assumes
-- nothing; `proofs/TidyLaws` has what the request says of tidy files.
use Rattle.std.specs.Prelude.{ℕ, ◌-◌, cond, List, [], ◌∷◌, ◌++◌, map, leb, ltb, length, None, Option, Some}
use Rattle.base.specs.Search.{first_of}
use Rattle.base.specs.Text.{together, written}
use Rattle.numeral.specs.Numeral.{digits}
use Rattle.tables.specs.Table.{Column, table, header, record_text}
use Rattle.tables.specs.declared.columns.Form.{Form}
use Rattle.tables.specs.declared.columns.Form.TheVariants.{Numeral as numeral, Signed as signed, Letter as letter}
use Rattle.tables.specs.Values.{MINUS}
use Rattle.tables.specs.Refusals.{unless, bare_refusal}
use Rattle.tables.specs.declared.files.File.{File}
use Rattle.tables.specs.declared.files.Refusal.{Refusal}
use Rattle.checking.specs.Files.{rows_as_cells, alone_refusals}

-- the field of a cell: a numeral, a signed number back out of its excess, a letter
unfoldable pub shown_as : Form → ℕ → ℕ → List ℕ
shown_as numeral minimum x = digits x
shown_as signed minimum x = cond (ltb x minimum) (MINUS ∷ digits (minimum - x)) (digits (x - minimum))
shown_as letter minimum x = x ∷ []

unfoldable pub shown : Column → ℕ → List ℕ
shown c x = shown_as c.form c.minimum x

-- the fields of a row
unfoldable pub shown_row : List Column → List ℕ → List (List ℕ)
shown_row [] xs = []
shown_row (c ∷ cs) [] = []
shown_row (c ∷ cs) (x ∷ xs) = shown c x ∷ shown_row cs xs

-- "header, then rows in their order", "CR LF after each record"
unfoldable pub tidy_text : File → List (List ℕ) → List ℕ
tidy_text f rows = together record_text (header f ∷ map (shown_row (table f).columns) rows)

-- the tidy file of a file's bytes
unfoldable pub tidy_of : File → List ℕ → List ℕ
tidy_of f s = tidy_text f (rows_as_cells f s)

-- 30: "when the lent buffer is shorter than the tidy file, after every refusal of reading"
unfoldable pub short_for_tidy : List ℕ → ℕ → Option Refusal
short_for_tidy text room = unless (leb (length text) room) 30

unfoldable pub tidy_refusals : File → List ℕ → ℕ → List (Option Refusal)
tidy_refusals f s room = alone_refusals f s ++ (short_for_tidy (tidy_of f s) room ∷ [])

-- what a call gives: number, file and place as they are told, how many bytes are written, and every byte of the buffer
pub record Tidying : Type 0 where
  pub told : Refusal
  pub count : ℕ
  pub buffer : List ℕ

-- "a refused call leaves its lent buffer .. as they were"
unfoldable pub tidying : List ℕ → List ℕ → Option Refusal → Tidying
tidying text buffer None = record { told = bare_refusal 0; count = length text; buffer = written text buffer }
tidying text buffer (Some r) = record { told = r; count = 0; buffer = buffer }

unfoldable pub tidied : File → List ℕ → List ℕ → Tidying
tidied f s buffer = tidying (tidy_of f s) buffer (first_of (tidy_refusals f s (length buffer)))
