-- The fixed layout, by the grammar of numerals, is the text that the definition writes, and no other. Assumes nothing.
use Prim.Native.Nat.{ℕ}
use mathlib.Core.Path.{◌≡◌, refl, ◌∙◌}
use mathlib.Core.Logic.{◌↔◌}
use mathlib.Core.List.{List, [], ◌∷◌}
use Rattle.base.specs.Text.{together}
use Rattle.numeral.specs.Numeral.{digits}
use Rattle.numeral.proofs.Laws.{numeral-digits, digits-numeral}
use Rattle.outcome.specs.Answer.{line, answer_text}
use Rattle.outcome.specs.Layout.{Line, Lines, InLayout, Lines.end, Lines.next}
use Rattle.tables.specs.declared.answer.AnswerRow.{AnswerRow}

-- a row's record
line-text : {r : AnswerRow} {text : List ℕ} → Line r text → text ≡ line r
unfolding line
line-text l =
    l.laid_out
    ∙ rw (
      numeral-digits l.unit-shown,
      numeral-digits l.supplier-shown,
      numeral-digits l.left-shown,
      numeral-digits l.schedule-shown,
      numeral-digits l.cost-shown,
    )

text-line : (r : AnswerRow) → Line r (line r)
unfolding line
text-line r =
    record {
      unit = digits r.unit;
      supplier = digits r.supplier;
      left = digits r.left;
      schedule = digits r.schedule;
      cost = digits r.cost;
      unit-shown = digits-numeral r.unit;
      supplier-shown = digits-numeral r.supplier;
      left-shown = digits-numeral r.left;
      schedule-shown = digits-numeral r.schedule;
      cost-shown = digits-numeral r.cost;
      laid_out = refl;
    }

-- the records of all rows
lines-text : {rs : List AnswerRow} {text : List ℕ} → Lines rs text → text ≡ together line rs
unfolding together
lines-text end = refl
lines-text (next l more e) = e ∙ rw (line-text l, lines-text more)

text-lines : (rs : List AnswerRow) → Lines rs (together line rs)
unfolding together
text-lines [] = end
text-lines (r ∷ rs) = next (text-line r) (text-lines rs) refl

pub layout-text : (rs : List AnswerRow) (text : List ℕ) → InLayout rs text ↔ (text ≡ answer_text rs)
unfolding answer_text
layout-text rs text =
    (λ l. l.laid_out ∙ rw (lines-text l.records), λ e. record { body = together line rs; laid_out = e; records = text-lines rs })
