-- The fixed layout of an answer file by the grammar of numerals: document 01, "Answer file": "Unquoted, numerals as above, CR LF after
-- every record, rows by rising unit." That it is the text that `Answer` writes is shown in `proofs/LayoutLaws`. Assumes nothing.
use Rattle.std.specs.Prelude.{ℕ, ◌≡◌, List, [], ◌∷◌, ◌++◌}
use Rattle.csv_text.specs.Bytes.{COMMA}
use Rattle.numeral.specs.Grammar.{Numeral}
use Rattle.tables.specs.declared.answer.AnswerRow.{AnswerRow}
use Rattle.outcome.specs.Answer.{answer_header, CRLF}

-- a row's record, in numerals as the files have them
pub record Line (r : AnswerRow) (text : List ℕ) : Type 0 where
  pub unit : List ℕ
  pub supplier : List ℕ
  pub left : List ℕ
  pub schedule : List ℕ
  pub cost : List ℕ
  pub unit-shown : Numeral unit r.unit
  pub supplier-shown : Numeral supplier r.supplier
  pub left-shown : Numeral left r.left
  pub schedule-shown : Numeral schedule r.schedule
  pub cost-shown : Numeral cost r.cost
  pub laid_out :
      text
      ≡ unit ++ COMMA ∷ supplier ++ COMMA ∷ r.verdict ∷ COMMA ∷ left ++ COMMA ∷ schedule ++ COMMA ∷ r.kind ∷ COMMA ∷ cost ++ CRLF

-- the records of rows, one behind the other
pub data Lines : List AnswerRow → List ℕ → Type 0 where
  end : Lines [] []
  next :
      {r : AnswerRow} {rs : List AnswerRow} {text first more : List ℕ} →
      Line r first → Lines rs more → text ≡ first ++ more → Lines (r ∷ rs) text

-- "in the fixed layout"
pub record InLayout (rs : List AnswerRow) (text : List ℕ) : Type 0 where
  pub body : List ℕ
  pub laid_out : text ≡ answer_header ++ body
  pub records : Lines rs body
