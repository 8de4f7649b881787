-- Laws of the preview: a unit's row sought among rows in cells, and one for each way through the code, from what deciding answers to
-- what is told and shown, and demand 3 from there. Assumes nothing.
use Rattle.std.specs.Prelude.{Err, None, Some}
use Prim.Native.Nat.{ℕ, ◌+◌, ◌≤◌, ◌<◌}
use mathlib.Core.Path.{◌≡◌, refl, ◌∙◌, ap}
use mathlib.Core.Logic.{⊎_elim}
use mathlib.Core.Bool.{true, false}
use mathlib.Core.List.{List}
use native.Mathlib.Omega.{arith}
use lib.ListN.{drop}
use borrow.Author.Tests.{eq-eqb, ne_eqb}
use Rattle.base.proofs.Finds.{find_none, find-here, find-later}
use Rattle.base.specs.Search.{any}
use Rattle.base.proofs.Lists.{drop-end}
use Rattle.base.proofs.Tests.{either}
use Rattle.tables.specs.declared.answer.AnswerRow.{AnswerRow}
use Rattle.tables.specs.declared.files.Refusal.{Refusal}
use Rattle.tables.proofs.RefusalLaws.{unless-broken, unless-kept}
use Rattle.cells.specs.promises.Views.{answer_rows, answer_at}
use Rattle.cells.proofs.RowViews.{answer-next, answer-length}
use Rattle.checking.specs.Files.{Files, supply_of}
use Rattle.outcome.specs.Decision.{of_unit}
use Rattle.outcome.specs.Preview.{previewing, row_for, not_supplied, previewed}
use Rattle.outcome.specs.Study.{study_rows, decision_refusal}
use Rattle.outcome.proofs.Numbered.{told-previewed}
use Rattle.outcome.proofs.PreviewLaws.{preview-right}
use Rattle.outcome.proofs.PreviewRows.{supplied-row, unsupplied-row}
use Rattle.outcome.proofs.RefusalOrder.{refused-both, not-supplied-last}
use Rattle.engine.specs.Previewing.{Previews, PreviewsRight}
use Rattle.engine.specs.View.{view_of}
use Rattle.engine.specs.declared.day.Day.{Day}
use Rattle.engine.specs.declared.previewing.Previewed.{Previewed}
use Rattle.engine.specs.promises.Answering.{preview_as, looked_at}

-- of k rows, none of the first i is the unit's
module _ (u k : ℕ) (cells : List ℕ) where
  pub record Seeking (i : ℕ) : Type 0 where
    pub passed : row_for u (answer_rows k cells) ≡ row_for u (drop i (answer_rows k cells))

  module _ (i : ℕ) (s : Seeking i) where
    module _ (here : i < k) where
      pub seeking-here : (answer_at cells i).unit ≡ u → row_for u (answer_rows k cells) ≡ Some (answer_at cells i)
      unfolding row_for
      seeking-here e = s.passed ∙ rw (answer-next k cells i here) (find-here _ (answer_at cells i) _ (eq-eqb _ u e))

      pub seeking-next : ((answer_at cells i).unit ≡ u → ⊥) → Seeking (i + 1)
      unfolding row_for
      seeking-next n =
          record {
            passed = s.passed ∙ rw (answer-next k cells i here) (find-later _ (answer_at cells i) _ (ne_eqb _ u n));
          }

    pub seeking-over : k ≤ i → row_for u (answer_rows k cells) ≡ None
    unfolding row_for
    seeking-over h = s.passed ∙ rw (drop-end i (answer_rows k cells) (rw (answer-length k cells) h)) (find_none _)

-- what deciding refuses, and what is shown once the rows are decided
module _ (day : Day) (f : Files) (u : ℕ) (r : Previewed) where
  pub preview-refused : (e : Refusal) → decision_refusal (view_of day) f ≡ Some e → r ≡ looked_at day (Err e) → Previews day f u r
  unfolding previewed previewing
  preview-refused e is g =
      let refused = refused-both (view_of day) f u e is in
      rw g (record { tells = rw refused; shows = rw refused; very-day = refl })

  module _ (ok : decision_refusal (view_of day) f ≡ None) (rows : List AnswerRow) (laid : rows ≡ study_rows (view_of day) f) (g : r ≡ looked_at day (preview_as (row_for u rows))) where
    row-shown : any (of_unit u) (supply_of f.supply) ≡ true → Previews day f u r
    unfolding previewed previewing not_supplied
    row-shown e =
        let row = supplied-row (view_of day) f u e in
        let accepted = not-supplied-last (view_of day) f u ok ∙ unless-kept _ 31 e in
        rw (g, laid, row) (record { tells = rw accepted; shows = rw (accepted, row); very-day = refl })

    not-in-supply : any (of_unit u) (supply_of f.supply) ≡ false → Previews day f u r
    unfolding previewed previewing not_supplied
    not-in-supply e =
        let row = unsupplied-row (view_of day) f u e in
        let refused = not-supplied-last (view_of day) f u ok ∙ unless-broken _ 31 e in
        rw (g, laid, row) (record { tells = rw refused; shows = rw refused; very-day = refl })

    pub preview-answered : Previews day f u r
    preview-answered = ⊎_elim row-shown not-in-supply (either (any (of_unit u) (supply_of f.supply)))

-- demand 3
pub previews-right : (day : Day) (f : Files) (u : ℕ) (r : Previewed) → Previews day f u r → PreviewsRight day f u r
previews-right day f u r previews zero row =
    let told : (previewed (view_of day) f u).told.number ≡ 0 = omega (arith, ap (λ (x : Refusal). x.number) previews.tells, zero) in
    rw previews.shows (preview-right (view_of day) f u (told-previewed (view_of day) f u told) row)
