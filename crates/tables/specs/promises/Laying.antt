-- What the steps of reading a file promise: of a field, a row, several rows, the header, and the whole. Assumes nothing.
use Rattle.tables.specs.declared.files.Refusal.{Refusal}
use Rattle.std.specs.Prelude.{ℕ, ◌*◌, ◌≤◌, ◌≡◌, true, false, List, ◌++◌, length, take, drop, None, Result}
use Rattle.csv_text.specs.Records.{rfc4180, records}
use Rattle.csv_text.specs.promises.Scan.{fitting}
use Rattle.csv_text.specs.promises.Fields.{extent, inner, unread, texts, passed, record_texts}
use Rattle.tables.specs.Table.{table, header, width}
use Rattle.tables.specs.Reading.{same_fields, misfit, rows}
use Rattle.tables.specs.Values.{value, cells, well_formed}
use Rattle.tables.specs.declared.files.File.{File}
use Rattle.tables.specs.declared.headers.Header.{Header}
use Rattle.tables.specs.declared.rows.Field.{Field}
use Rattle.tables.specs.declared.rows.Row.{Row}
use Rattle.tables.specs.promises.Answers.{reading, laid, all_cells}
use Rattle.tables.specs.promises.Columns.{column_at}
use Rattle.base.specs.promises.Counting.{leading}

-- the field at the start of s, in a column
pub record FieldRead (column : ℕ) (s : List ℕ) (r : Field) : Type 0 where
  pub within : r.next ≤ length s
  pub next : drop r.next s ≡ unread s (extent false s)
  pub cell : r.cell ≡ value (column_at column) (inner (take (extent false s) s))

-- the row at the start of s
pub record RowLaid (f : File) (s old new : List ℕ) (r : Row) : Type 0 where
  pub good : r.good ≡ well_formed (table f).columns (texts (width f) s)
  pub laid : new ≡ cells (table f).columns (texts (width f) s) ++ drop (width f) old
  pub within : r.next ≤ length s
  pub next : drop r.next s ≡ passed (width f) s

-- n rows from the start of s, of which the first `good` are well-formed
pub record RowsLaid (f : File) (n : ℕ) (s old new : List ℕ) (good : ℕ) : Type 0 where
  pub run : good ≡ leading (well_formed (table f).columns) (record_texts (width f) n s)
  pub laid :
      let all = all_cells (table f).columns (record_texts (width f) n s) in
      new ≡ all ++ drop (length all) old

-- the first k fields of s beside those of t
pub record FieldsCompared (k : ℕ) (s t : List ℕ) (r : Header) : Type 0 where
  pub same : r.same ≡ same_fields (texts k s) (texts k t)
  pub within : r.next ≤ length s
  pub next : drop r.next s ≡ passed k s

pub record HeaderRead (f : File) (s : List ℕ) (r : Header) : Type 0 where
  pub same : r.same ≡ same_fields (texts (width f) s) (header f)
  pub within : r.next ≤ length s
  pub next : drop r.next s ≡ passed (width f) s

-- the cells that the longest file of a kind takes
unfoldable pub room : File → ℕ
room f = (table f).most_rows * width f

-- a whole file: the answer, and every cell of the lent run
pub record FileRead (f : File) (s old new : List ℕ) (r : Result ℕ Refusal) : Type 0 where
  pub answers : r ≡ reading f s
  pub lays : new ≡ laid f s ++ drop (length (laid f s)) old

-- a file that is RFC 4180, with what the scan counted
pub record Shaped (f : File) (s : List ℕ) (count fit : ℕ) : Type 0 where
  pub regular : rfc4180 s ≡ true
  pub counted : count ≡ length (records s)
  pub fits : fit ≡ fitting (width f) (records s)

-- one whose records all fit, where the rows begin, and how many there are
pub record RowsCounted (f : File) (s : List ℕ) (start count : ℕ) : Type 0 where
  pub regular : rfc4180 s ≡ true
  pub fit : misfit f (records s) ≡ None
  pub fits : fitting (width f) (records s) ≡ length (records s)
  pub within : start ≤ length s
  pub starts : drop start s ≡ passed (width f) s
  pub counted : count ≡ length (rows s)
