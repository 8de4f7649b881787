-- Document 01, "Answer file": "The fixed layout is the header record of the example below, then one row per unit of the
-- supply file. Unquoted, numerals as above, CR LF after every record, rows by rising unit." Here its rows, their text, and
-- rows out of a flat run of cells, one row behind the other. Assumes nothing.
use Rattle.std.specs.Prelude.{ℕ, List, [], ◌∷◌, ◌++◌}
use Rattle.base.specs.Text.{bytes, together}
use Rattle.numeral.specs.Numeral.{digits}
use Rattle.tables.specs.declared.answer.AnswerRow.{AnswerRow}
use Rattle.csv_text.specs.Bytes.{COMMA, CR, LF}

-- what ends a record
abbrev pub CRLF : List ℕ
CRLF = CR ∷ LF ∷ []

unfoldable pub answer_header : List ℕ
answer_header = bytes "unit,supplier,verdict,left,schedule,kind,cost\r\n"

-- a row's record
unfoldable pub line : AnswerRow → List ℕ
line r =
    digits r.unit ++ COMMA ∷ digits r.supplier ++ COMMA ∷ r.verdict ∷ COMMA ∷ digits r.left ++ COMMA
    ∷ digits r.schedule ++ COMMA ∷ r.kind ∷ COMMA ∷ digits r.cost ++ CRLF

unfoldable pub answer_text : List AnswerRow → List ℕ
answer_text rs = answer_header ++ together line rs
