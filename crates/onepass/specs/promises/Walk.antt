-- What the steps of the one pass promise, by the grammar of RFC 4180: of a run of digits, a field, a row, the rows and the
-- header at the start of a part of a file. Each speaks of what a step answers; one that gives up answers nothing, and promises
-- nothing. Assumes nothing.
use Rattle.std.specs.Prelude.{◌≡◌, ℕ, ◌+◌, ◌≤◌, Bool, true, false, cond, List, [], ◌∷◌, ◌++◌, length, take, drop, ◌==◌, slice_index, Option, Some}
use Rattle.csv_text.specs.Grammar.{NonEscaped, Field, Record}
use Rattle.csv_text.specs.Bytes.{COMMA, CR, DQUOTE, LF}
use Rattle.csv_text.specs.promises.Rows.{Breaks, Rows}
use Rattle.tables.specs.Table.{table, header, width}
use Rattle.tables.specs.declared.columns.Form.{Form}
use Rattle.tables.specs.declared.columns.Form.TheVariants.{Numeral as numeral, Signed as signed, Letter as letter}
use Rattle.tables.proofs.ColumnLaws.{forms as all_forms, minima as all_minima, maxima as all_maxima}
use Rattle.tables.specs.promises.RowCells.{CellsOf, RowsOf}
use Rattle.tables.specs.declared.files.File.{File}
use Rattle.onepass.specs.declared.fields.Found.{Found}
use Rattle.numeral.specs.Grammar.{Digits}

-- the digits from a place on, and the number that they make
pub record Run (s : List ℕ) (at : ℕ) (r : Found) : Type 0 where
  pub text : List ℕ
  pub runs : NonEscaped (drop at s) text (drop r.next s)
  pub makes : Digits 0 text r.cell
  pub counted : r.next ≡ at + length text
  pub inside : r.next ≤ length s

-- `0` at a place, where it is not below the least number
pub record ZeroFound (s : List ℕ) (at least : ℕ) (r : Found) : Type 0 where
  pub byte : slice_index s at ≡ 0x30
  pub next : r.next ≡ at + 1
  pub cell : r.cell ≡ 0
  pub none_less : least ≡ 0

-- a text of one cell from a place on
pub record TextFound (read : List ℕ → Option ℕ) (s : List ℕ) (at : ℕ) (r : Found) : Type 0 where
  pub text : List ℕ
  pub runs : NonEscaped (drop at s) text (drop r.next s)
  pub means : read text ≡ Some r.cell
  pub inside : r.next ≤ length s

-- a field of one cell at the start of s
pub record FieldFound (read : List ℕ → Option ℕ) (s : List ℕ) (r : Found) : Type 0 where
  pub text : List ℕ
  pub field : Field s text (drop r.next s)
  pub means : read text ≡ Some r.cell

-- behind the quote at the end of a text t
pub record Closed (s : List ℕ) (t r : Found) : Type 0 where
  pub ends : drop t.next s ≡ DQUOTE ∷ drop r.next s
  pub cell : r.cell ≡ t.cell

-- the code's tables of all columns
pub record Ranges (fs : List Form) (ls ms : List ℕ) : Type 0 where
  pub forms : fs ≡ all_forms
  pub minima : ls ≡ all_minima
  pub maxima : ms ≡ all_maxima

-- what stands between a field and the next of its record, or behind the record's last: r follows it
pub data Separates : Bool → List ℕ → List ℕ → Type 0 where
  comma : {r : List ℕ} → Separates true (COMMA ∷ r) r
  end : {e r : List ℕ} → Breaks e r → Separates false e r

-- behind a separator at a place
pub record SeparatorFound (s : List ℕ) (at : ℕ) (more : Bool) (next : ℕ) : Type 0 where
  pub separates : Separates more (drop at s) (drop next s)
  pub inside : next ≤ length s

-- a row at the start of s, whose cells are laid down
pub record RowFound (f : File) (s old new : List ℕ) (next : ℕ) : Type 0 where
  pub values : List (List ℕ)
  pub ends : List ℕ
  pub row : Record s values ends
  pub breaks : Breaks ends (drop next s)
  pub cells : CellsOf (table f).columns values (take (width f) new)
  pub kept : drop (width f) new ≡ drop (width f) old
  pub inside : next ≤ length s

-- all rows of a file, where s begins with the first
pub record RowsFound (f : File) (s old new : List ℕ) (count : ℕ) : Type 0 where
  pub values : List (List (List ℕ))
  pub cells : List ℕ
  pub rows : Rows s values []
  pub read : RowsOf (table f).columns values cells
  pub laid : new ≡ cells ++ drop (length cells) old
  pub counted : count ≡ length values
  pub most : count ≤ (table f).most_rows

-- a text from a place on, up to the next
pub record TextAt (s : List ℕ) (at : ℕ) (text : List ℕ) (next : ℕ) : Type 0 where
  pub there : drop at s ≡ text ++ drop next s
  pub inside : next ≤ length s

-- a byte of a header whose names are in quotes, and the whole of it
unfoldable pub quoted_byte : ℕ → List ℕ
quoted_byte b =
    cond (b == COMMA) (DQUOTE ∷ COMMA ∷ DQUOTE ∷ []) (cond (b == CR) (DQUOTE ∷ CR ∷ []) (b ∷ []))

unfoldable pub quoted_bytes : List ℕ → List ℕ
quoted_bytes [] = []
quoted_bytes (b ∷ s) = quoted_byte b ++ quoted_bytes s

unfoldable pub quoted_text : List ℕ → List ℕ
quoted_text s = DQUOTE ∷ quoted_bytes s

-- where the one of two texts that s begins with ends
pub data Begins (s a b : List ℕ) : ℕ → Type 0 where
  the-first : s ≡ a ++ drop (length a) s → Begins s a b (length a)
  the_second : s ≡ b ++ drop (length b) s → Begins s a b (length b)

-- the header, and where the rows begin
pub record HeaderFound (f : File) (s : List ℕ) (next : ℕ) : Type 0 where
  pub names : Record s (header f) (CR ∷ LF ∷ drop next s)
  pub inside : next ≤ length s
