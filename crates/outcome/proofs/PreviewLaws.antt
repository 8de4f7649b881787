-- Document 02, F-2: "Its result is that of a study done on a copy of the day with a buffer long enough, refusals included." Shown for
-- every buffer that holds the answer; and demand 3 on the row. Assumes nothing.
use Rattle.std.specs.Prelude.{None, Option, Some}
use Prim.Native.Nat.{ℕ, ◌≤◌, ◌<◌}
use mathlib.Core.Path.{◌≡◌, refl, sym, ◌∙◌, ap}
use mathlib.Core.Logic.{◌↔◌}
use mathlib.Core.Bool.{true}
use mathlib.Core.List.Memᴰ.{head as first}
use mathlib.Core.List.Memᴰ.{map as among-map}
use mathlib.Core.List.Memᴰ.{of_map}
use mathlib.Core.List.Memᴰ.{tail as later}
use mathlib.Core.List.{
  List,
  [],
  ◌∷◌,
  ◌++◌,
  append_assoc,
  Memᴰ as Among,
}
use native.Mathlib.Omega.{arith}
use lib.ListN.{length, take}
use Rattle.base.specs.Search.{any}
use Rattle.base.specs.Text.{together}
use Rattle.base.proofs.SearchLaws.{among-true}
use Rattle.base.proofs.Together.{together-append}
use Rattle.tables.specs.declared.answer.AnswerRow.{AnswerRow}
use Rattle.tables.specs.declared.files.Refusal.{Refusal}
use Rattle.tables.specs.Refusals.{told}
use Rattle.tables.proofs.RefusalLaws.{unless-kept}
use Rattle.checking.specs.Files.{Files, supply_of}
use Rattle.supply.specs.Supply.{units}
use Rattle.supply.proofs.UnitLaws.{among-units}
use Rattle.outcome.specs.Answer.{answer_header, line, answer_text}
use Rattle.outcome.specs.Day.{DayView}
use Rattle.outcome.specs.Decision.{of_unit}
use Rattle.outcome.specs.Preview.{previewing, not_supplied, preview_refusal, previewed}
use Rattle.outcome.specs.Right.{RightFor}
use Rattle.outcome.specs.Study.{study_rows, answer_file, decision_refusal, study_refusal, studied}
use Rattle.outcome.proofs.DayRelease.{unless-none}
use Rattle.outcome.proofs.Numbered.{study-told, told-accepted, preview-told, told-previewed}
use Rattle.outcome.proofs.PreviewRows.{supplied-row}
use Rattle.outcome.proofs.RefusalOrder.{enough-room, refused-both, not-supplied-last, accepted-both}
use Rattle.outcome.proofs.RowLaws.{row-right, row-decided}
use Rattle.outcome.proofs.RowsToBytes.{study_row, study-row-unit, study-rows}
use Rattle.outcome.proofs.StudyBytes.{file-written}
use Rattle.outcome.proofs.UnitRows.{unit-listed}

-- a row's line stands in an answer file, behind those of other rows and before those of others
pub record LineIn (text : List ℕ) (r : AnswerRow) : Type 0 where
  pub before : List AnswerRow
  pub behind : List AnswerRow
  pub stands : text ≡ answer_text before ++ (line r ++ together line behind)

-- the row that is shown for a unit is one of the study's, and the unit's own; its line stands in the file that the study writes
pub record ShownAsStudied (d : DayView) (f : Files) (u : ℕ) (buffer : List ℕ) : Type 0 where
  pub row : AnswerRow
  pub is-shown : (previewed d f u).row ≡ Some row
  pub decided : Among row (study_rows d f)
  pub its-unit : row.unit ≡ u
  pub in-file : LineIn (take (studied d f buffer).count (studied d f buffer).buffer) row

-- a preview beside a study of the same day and files
pub record AsStudied (d : DayView) (f : Files) (u : ℕ) (buffer : List ℕ) : Type 0 where
  -- what the study refuses is refused alike
  pub refused-alike : 0 < (studied d f buffer).told.number → (previewed d f u).told ≡ (studied d f buffer).told
  -- where it is accepted only 31 is left
  pub else-31 : (studied d f buffer).told.number ≡ 0 → (previewed d f u).told ≡ told (not_supplied f u)
  -- where neither is refused, the row is the study's
  pub same_row : (previewed d f u).told.number ≡ 0 → ShownAsStudied d f u buffer

line-between :
    (before behind : List AnswerRow) (r : AnswerRow) →
    answer_text (before ++ r ∷ behind) ≡ answer_text before ++ (line r ++ together line behind)
unfolding answer_text together
line-between before behind r =
    rw (together-append line before (r ∷ behind)) (sym (append_assoc answer_header (together line before) _))

line-in : {r : AnswerRow} {rows : List AnswerRow} → Among r rows → LineIn (answer_text rows) r
line-in {r} m =
    let (before, behind, parted) = parts m in
    record { before = before; behind = behind; stands = ap answer_text parted ∙ line-between before behind r }
  where
    parts : {rows : List AnswerRow} → Among r rows → (before : List AnswerRow) × (behind : List AnswerRow) × (rows ≡ before ++ r ∷ behind)
    parts (first {xs = rows} e) = ([], rows, ap (λ (x : AnswerRow). x ∷ rows) (sym e))
    parts (later {x = x} m) =
        let (before, behind, parted) = parts m in
        (x ∷ before, behind, ap (λ (l : List AnswerRow). x ∷ l) parted)

some_same : {A : Type 0} {x y : A} → Some x ≡ Some y → x ≡ y
some_same e = cc

is-supplied : (f : Files) (u : ℕ) → Among u (units (supply_of f.supply)) → not_supplied f u ≡ None
unfolding not_supplied of_unit
is-supplied f u m =
    unless-kept (any (of_unit u) (supply_of f.supply)) 31 (sym (among-units u (supply_of f.supply)) ∙ among-true m)

module _ (d : DayView) (f : Files) (u : ℕ) where
  -- where nothing is refused
  module _ (ok : preview_refusal d f u ≡ None) where
    decides : decision_refusal d f ≡ None
    decides = (accepted-both d f u ok).0

    supplied : any (of_unit u) (supply_of f.supply) ≡ true
    unfolding not_supplied
    supplied = unless-none _ 31 (accepted-both d f u ok).1

    pub shown : (previewed d f u).row ≡ Some (study_row d f u)
    unfolding previewed previewing
    shown = rw ok (supplied-row d f u supplied)

    listed : Among u (units (supply_of f.supply))
    listed = unit-listed (supply_of f.supply) u supplied

    -- demand 3: any row is the one shown exactly when it is right for the unit
    pub preview-right : (r : AnswerRow) → ((previewed d f u).row ≡ Some r) ↔ RightFor d f u r
    preview-right r = (right, only)
      where
        right : (previewed d f u).row ≡ Some r → RightFor d f u r
        right e =
            let same : study_row d f u ≡ r = some_same (sym shown ∙ e) in
            rw (← same) (record { its-unit = omega (arith, study-row-unit d f u); right = row-right d f decides u listed })

        only : RightFor d f u r → (previewed d f u).row ≡ Some r
        only t =
            let its : r.unit ≡ u = omega (arith, t.its-unit) in
            shown ∙ ap Some (sym (row-decided d f decides r (rw its listed) t.right ∙ ap (study_row d f) its))

  pub as-studied : (buffer : List ℕ) → length (answer_file d f) ≤ length buffer → AsStudied d f u buffer
  unfolding answer_file
  as-studied buffer holds =
      record {
        refused-alike = alike (decision_refusal d f) refl;
        else-31 = λ zero. preview-told d f u ∙ ap told (not-supplied-last d f u (sym same ∙ told-accepted d f buffer zero));
        same_row = λ zero. written (told-previewed d f u zero);
      }
    where
      same : study_refusal d f (length buffer) ≡ decision_refusal d f
      same = enough-room d f (length buffer) (λ _. holds)

      alike :
          (o : Option Refusal) → decision_refusal d f ≡ o → 0 < (studied d f buffer).told.number →
          (previewed d f u).told ≡ (studied d f buffer).told
      alike None e h = absurd (omega (arith, h, ap (λ (x : Refusal). x.number) (study-told d f buffer ∙ ap told (same ∙ e))))
      alike (Some r) e h =
          preview-told d f u ∙ ap told (refused-both d f u r e) ∙ sym (study-told d f buffer ∙ ap told (same ∙ e))

      written : preview_refusal d f u ≡ None → ShownAsStudied d f u buffer
      written ok =
          let m : Among (study_row d f u) (study_rows d f) = rw (study-rows d f) (among-map (study_row d f) (listed ok)) in
          record {
            row = study_row d f u;
            is-shown = shown ok;
            decided = m;
            its-unit = study-row-unit d f u;
            in-file = rw (file-written d f buffer (same ∙ decides ok)) (line-in m);
          }

-- each row of an accepted study's answer is previewed for its unit
pub every-row-previewed :
    (d : DayView) (f : Files) → decision_refusal d f ≡ None → (r : AnswerRow) → Among r (study_rows d f) →
    (previewed d f r.unit).row ≡ Some r
every-row-previewed d f ok r m =
    let (u, its-unit, made) = of_map (study_row d f) (units (supply_of f.supply)) (rw (study-rows d f) at m) in
    let same : r.unit ≡ u = ap (λ (x : AnswerRow). x.unit) (sym made) ∙ study-row-unit d f u in
    let accepted : preview_refusal d f u ≡ None = not-supplied-last d f u ok ∙ is-supplied f u its-unit in
    ap (λ (v : ℕ). (previewed d f v).row) same ∙ shown d f u accepted ∙ ap Some made
