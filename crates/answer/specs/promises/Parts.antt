-- The parts of a row's record, as they are written one behind the other. Assumes nothing.
use Rattle.std.specs.Prelude.{ℕ, List, [], ◌∷◌, ◌++◌}
use Rattle.numeral.specs.Numeral.{digits}
use Rattle.outcome.specs.Answer.{CRLF}
use Rattle.tables.specs.declared.answer.AnswerRow.{AnswerRow}
use Rattle.csv_text.specs.Bytes.{COMMA}

-- a number and the comma behind it
unfoldable pub number_field : ℕ → List ℕ
number_field n = digits n ++ COMMA ∷ []

-- a letter and the comma behind it
unfoldable pub letter_field : ℕ → List ℕ
letter_field b = b ∷ COMMA ∷ []

-- the last number of a record and the record's end
unfoldable pub last_field : ℕ → List ℕ
last_field n = digits n ++ CRLF

unfoldable pub ids_part : AnswerRow → List ℕ
ids_part r = number_field r.unit ++ number_field r.supplier

unfoldable pub test_part : AnswerRow → List ℕ
test_part r = letter_field r.verdict ++ number_field r.left

unfoldable pub schedule_part : AnswerRow → List ℕ
schedule_part r = (number_field r.schedule ++ letter_field r.kind) ++ last_field r.cost
