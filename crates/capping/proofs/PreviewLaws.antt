-- From what a preview answers to the numbers that host programs see. Assumes nothing.
use Rattle.tables.specs.Refusals.{told_by}
use Rattle.std.specs.Prelude.{Some}
use Prim.Native.Nat.{ℕ}
use mathlib.Core.Path.{◌≡◌, sym, ◌∙◌, ap}
use mathlib.Core.List.{List}
use native.Mathlib.Omega.{arith}
use Rattle.tables.specs.declared.answer.AnswerRow.{AnswerRow}
use Rattle.tables.specs.declared.files.Refusal.{Refusal}
use Rattle.cells.specs.promises.Views.{answer_row}
use Rattle.checking.specs.Files.{Files}
use Rattle.outcome.specs.Day.{DayView}
use Rattle.outcome.specs.Preview.{previewed}
use Rattle.outcome.proofs.Numbered.{told-previewed}
use Rattle.outcome.proofs.PreviewLaws.{shown, preview-right}
use Rattle.engine.specs.Previewing.{row_shown, Previews}
use Rattle.engine.specs.View.{view_of}
use Rattle.engine.specs.declared.day.Day.{Day}
use Rattle.engine.specs.declared.previewing.Previewed.{Previewed}
use Rattle.capping.specs.Exports.{reported, row_cells, cells_shown, PreviewTold, ShownRight}

-- cells are those of one row at most
same_row : {a b : AnswerRow} → row_cells a ≡ row_cells b → a ≡ b
same_row e = ap answer_row e

-- a preview of a day with this view
module _
    (day : Day) (d : DayView) (seen : view_of day ≡ d) (f : Files) (u : ℕ) (w : Previewed) (previews : Previews day f u w)
    (cells new : List ℕ) (laid : new ≡ cells_shown cells (row_shown w.answer))
  where
    pub preview-told :
        {t : Refusal} {report : List ℕ} → t ≡ told_by w.answer → report ≡ reported t →
        PreviewTold (previewed d f u) cells new report t.number
    preview-told answered stored =
        let told = answered ∙ (rw seen at previews.tells) in
        record {
          number = ap (λ (x : Refusal). x.number) told;
          row = laid ∙ ap (cells_shown cells) (rw seen at previews.shows);
          reports = stored ∙ ap reported told;
        }

    pub shown-right : {t : Refusal} → t ≡ told_by w.answer → ShownRight d f u new t.number
    shown-right {t} answered zero row =
        let told : t ≡ (previewed d f u).told = answered ∙ (rw seen at previews.tells) in
        let number : (previewed d f u).told.number ≡ 0 = omega (arith, ap (λ (x : Refusal). x.number) told, zero) in
        let accepted = told-previewed d f u number in
        let is-shown = shown d f u accepted in
        let held = laid ∙ ap (cells_shown cells) ((rw seen at previews.shows) ∙ is-shown) in
        let exactly = preview-right d f u accepted row in (
          λ same. exactly.0 (is-shown ∙ ap Some (sym (same_row (same ∙ held)))),
          λ right. sym (held ∙ ap (cells_shown cells) (sym is-shown ∙ exactly.1 right)),
        )
