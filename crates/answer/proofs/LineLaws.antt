-- Laws of the answer's text: a record by its parts, and their lengths. Assumes nothing.
use Prim.Native.Nat.{ℕ, ◌+◌, ◌<◌}
use mathlib.Core.Path.{◌≡◌, refl, sym, ◌∙◌, ap}
use mathlib.Core.List.{List, ◌∷◌, [], ◌++◌, append_assoc}
use lib.ListN.{length, length-append}
use Rattle.base.specs.Search.{All}
use Rattle.base.proofs.Searches.{all_drop, all_head}
use Rattle.numeral.specs.Numeral.{digits}
use Rattle.cells.proofs.RowViews.{answer-next}
use Rattle.cells.specs.promises.Letters.{Lettered}
use Rattle.cells.specs.promises.Views.{answer_rows, answer_at}
use Rattle.outcome.specs.Answer.{CRLF, line}
use Rattle.answer.specs.promises.Parts.{number_field, letter_field, last_field, ids_part, test_part, schedule_part}
use Rattle.tables.specs.declared.answer.AnswerRow.{AnswerRow}
use Rattle.csv_text.specs.Bytes.{COMMA}

regroup :
    (a b c d e f g : List ℕ) → ((a ++ b) ++ (c ++ d)) ++ ((e ++ f) ++ g) ≡ a ++ (b ++ (c ++ (d ++ (e ++ (f ++ g)))))
regroup a b c d e f g = simp append_assoc

aside : (a b c d e f : List ℕ) → (((((a ++ b) ++ c) ++ d) ++ e) ++ f) ≡ a ++ (b ++ (c ++ (d ++ (e ++ f))))
aside a b c d e f = simp append_assoc

with-comma : (n : ℕ) (t : List ℕ) → number_field n ++ t ≡ digits n ++ COMMA ∷ t
unfolding number_field
with-comma n t = append_assoc (digits n) (COMMA ∷ []) t

pub line-parts : (r : AnswerRow) → line r ≡ (ids_part r ++ test_part r) ++ schedule_part r
unfolding line ids_part test_part schedule_part letter_field last_field
line-parts r =
    aside (digits r.unit) (COMMA ∷ digits r.supplier) (COMMA ∷ r.verdict ∷ COMMA ∷ digits r.left)
    (COMMA ∷ digits r.schedule) (COMMA ∷ r.kind ∷ COMMA ∷ digits r.cost) CRLF
    ∙ sym
    (regroup (number_field r.unit) (number_field r.supplier) (r.verdict ∷ COMMA ∷ []) (number_field r.left)
    (number_field r.schedule) (r.kind ∷ COMMA ∷ []) (digits r.cost ++ CRLF)
    ∙ rw (with-comma r.unit, with-comma r.supplier, with-comma r.left, with-comma r.schedule))

-- lengths
pub number-length : (n : ℕ) → length (number_field n) ≡ length (digits n) + 1
unfolding number_field
number-length n = length-append (digits n) _

pub letter-length : (b : ℕ) → length (letter_field b) ≡ 2
unfolding letter_field
letter-length b = refl

pub last-length : (n : ℕ) → length (last_field n) ≡ length (digits n) + 2
unfolding last_field
last-length n = length-append (digits n) _

pub ids-length : (r : AnswerRow) → length (ids_part r) ≡ length (number_field r.unit) + length (number_field r.supplier)
unfolding ids_part
ids-length r = length-append (number_field r.unit) (number_field r.supplier)

pub test-length : (r : AnswerRow) → length (test_part r) ≡ length (letter_field r.verdict) + length (number_field r.left)
unfolding test_part
test-length r = length-append (letter_field r.verdict) (number_field r.left)

pub schedule-length :
    (r : AnswerRow) →
    length (schedule_part r) ≡ length (number_field r.schedule) + length (letter_field r.kind) + length (last_field r.cost)
unfolding schedule_part
schedule-length r =
    length-append (number_field r.schedule ++ letter_field r.kind) (last_field r.cost)
    ∙ rw (length-append (number_field r.schedule) (letter_field r.kind))

pub line-parts-length : (r : AnswerRow) → length (line r) ≡ length (ids_part r) + length (test_part r) + length (schedule_part r)
line-parts-length r =
    ap length (line-parts r) ∙ length-append (ids_part r ++ test_part r) (schedule_part r)
    ∙ rw (length-append (ids_part r) (test_part r))

module _ (n : ℕ) (cs : List ℕ) where
  pub lettered-at : (i : ℕ) → i < n → All Lettered (answer_rows n cs) → Lettered (answer_at cs i)
  lettered-at i h a = all_head (rw (answer-next n cs i h) at (all_drop i a))
