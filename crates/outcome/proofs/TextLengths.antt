-- How long the answer's text is: its header record, a row's record by its numerals, and the records of rows. Assumes nothing.
use Prim.Native.Nat.{◌+◌}
use mathlib.Core.Path.{◌≡◌, refl, ◌∙◌}
use mathlib.Core.List.{List, ◌∷◌, ◌++◌}
use native.Mathlib.Omega.{arith}
use lib.ListN.{length, length-append}
use Rattle.base.specs.Text.{together}
use Rattle.numeral.specs.Numeral.{digits}
use Rattle.tables.specs.declared.answer.AnswerRow.{AnswerRow}
use Rattle.csv_text.specs.Bytes.{COMMA}
use Rattle.outcome.specs.Answer.{CRLF, answer_header, line, answer_text}

pub header-length : length answer_header ≡ 47
unfolding answer_header
header-length = refl

-- five numerals, six commas, two letters and a CR LF
pub line-length :
    (r : AnswerRow) →
    length (line r)
    ≡ length (digits r.unit) + length (digits r.supplier) + length (digits r.left) + length (digits r.schedule)
    + length (digits r.cost) + 10
unfolding line
line-length r =
    let unit = digits r.unit in
    let supplier = COMMA ∷ digits r.supplier in
    let tested = COMMA ∷ r.verdict ∷ COMMA ∷ digits r.left in
    let schedule = COMMA ∷ digits r.schedule in
    let chosen = COMMA ∷ r.kind ∷ COMMA ∷ digits r.cost in
    omega (
      arith,
      length-append unit supplier,
      length-append (unit ++ supplier) tested,
      length-append (unit ++ supplier ++ tested) schedule,
      length-append (unit ++ supplier ++ tested ++ schedule) chosen,
      length-append (unit ++ supplier ++ tested ++ schedule ++ chosen) CRLF,
    )

pub text-parts : (rs : List AnswerRow) → length (answer_text rs) ≡ length answer_header + length (together line rs)
unfolding answer_text
text-parts rs = length-append answer_header (together line rs)

pub text-length : (rs : List AnswerRow) → length (answer_text rs) ≡ 47 + length (together line rs)
text-length rs = text-parts rs ∙ rw header-length
