-- From what the study and the release answer to the numbers that host programs see. Assumes nothing.
use Rattle.std.specs.Prelude.{Err, Ok, Result}
use Prim.Native.Nat.{ℕ, ◌≤◌, ◌<◌}
use mathlib.Core.Path.{◌≡◌, refl, sym, ◌∙◌, ap}
use mathlib.Core.Logic.{◌↔◌, ⊎_elim}
use mathlib.Core.List.{List}
use native.Mathlib.Omega.{arith}
use lib.ListN.{length, take}
use borrow.Author.Tests.{eq-eqb, ne_eqb}
use Rattle.base.proofs.Tests.{eq-or-ne}
use Rattle.tables.specs.Refusals.{told, count_of, told_by}
use Rattle.tables.specs.declared.files.Refusal.{Refusal}
use Rattle.checking.specs.Files.{Files}
use Rattle.outcome.specs.Day.{DayView, most_running, release_refusal, released}
use Rattle.outcome.specs.Right.{Right}
use Rattle.outcome.specs.Study.{studied}
use Rattle.outcome.proofs.DayAfter.{studied-few}
use Rattle.outcome.proofs.DayRelease.{released-few}
use Rattle.outcome.proofs.Numbered.{told-released}
use Rattle.capping.specs.Days.{day_in, day_cells}
use Rattle.capping.specs.Exports.{
  reported,
  StudyTold,
  ToldRight,
  cells_after,
  DayKept,
  DayStudied,
  DayReleased,
}
use Rattle.engine.specs.Releasing.{Releases}
use Rattle.engine.specs.Studying.{Studies, AnswersRight}
use Rattle.engine.specs.View.{view_of}
use Rattle.engine.specs.declared.day.Day.{Day}
use Rattle.engine.specs.declared.releasing.Released.{Released}
use Rattle.engine.specs.declared.studying.Studied.{Studied}
use Rattle.capping.proofs.DayCellLaws.{cells-mean}

-- what is kept of a day, by what is told
module _ (cells : List ℕ) (after : DayView) (r : Refusal) where
  pub kept-accepted : r.number ≡ 0 → cells_after cells after r ≡ day_cells after
  unfolding cells_after
  kept-accepted e = rw (eq-eqb r.number 0 e)

  pub kept-refused : (r.number ≡ 0 → ⊥) → cells_after cells after r ≡ cells
  unfolding cells_after
  kept-refused n = rw (ne_eqb r.number 0 n)

  day-kept :
      (kept : List ℕ) → kept ≡ cells_after cells after r → (r.number ≡ 0 → length after.running ≤ most_running) →
      (0 < r.number → after ≡ day_in cells) → DayKept cells kept after r
  day-kept kept e few same = record { held = e; meant = ap day_in e ∙ ⊎_elim accepted refused (eq-or-ne r.number 0) }
    where
      accepted : r.number ≡ 0 → day_in (cells_after cells after r) ≡ after
      accepted z = ap day_in (kept-accepted z) ∙ cells-mean after (few z)

      refused : (r.number ≡ 0 → ⊥) → day_in (cells_after cells after r) ≡ after
      refused n = ap day_in (kept-refused n) ∙ sym (same (omega (arith, n)))

-- a study of a day with this view
module _ (day : Day) (d : DayView) (seen : view_of day ≡ d) (f : Files) (old new : List ℕ) (w : Studied) (studies : Studies day f old new w) where
  tells : told_by w.answer ≡ (studied d f old).told
  tells = rw seen at studies.tells

  pub study-told :
      {t : Refusal} {r : ℕ} {report : List ℕ} → t ≡ told_by w.answer → r ≡ count_of w.answer → report ≡ reported t →
      StudyTold (studied d f old) new report r
  study-told answered counted stored =
      record {
        count = counted ∙ (rw seen at studies.counts);
        bytes = rw seen at studies.bytes;
        reports = stored ∙ ap reported (answered ∙ tells);
      }

  pub study-kept :
      (cells kept : List ℕ) → d ≡ day_in cells → {t : Refusal} → t ≡ told_by w.answer →
      kept ≡ cells_after cells (view_of w.day) t → DayKept cells kept (studied d f old).day (studied d f old).told
  study-kept cells kept is answered held =
      let after : view_of w.day ≡ (studied d f old).day = rw seen at studies.day-after in
      day-kept cells (studied d f old).day (studied d f old).told kept
      (held ∙ rw (answered ∙ tells, after))
      (studied-few d f old)
      (λ h. sym after ∙ ap view_of (studies.very-day (rw (sym tells) at h)) ∙ seen ∙ is)

pub told-right :
    (day : Day) (d : DayView) → view_of day ≡ d → (f : Files) (new : List ℕ) (w : Studied) → AnswersRight day f new w → {r : ℕ} →
    r ≡ count_of w.answer → ToldRight d f new r
told-right day d seen f new w right {r} counted Some-written text = go w.answer refl counted
  where
    go : (a : Result ℕ Refusal) → w.answer ≡ a → r ≡ count_of a → (text ≡ take r new) ↔ Right d f text
    go (Ok count) e g = rw g (rw (seen, e) at (right (rw e refl) text))
    go (Err x) e g = absurd (omega (arith, g, Some-written))

-- a study of a day in cells
pub day-studied :
    (cells kept : List ℕ) (day : Day) → view_of day ≡ day_in cells → (f : Files) (old new : List ℕ) (w : Studied) →
    Studies day f old new w → {t : Refusal} {r : ℕ} {report : List ℕ} → t ≡ told_by w.answer → r ≡ count_of w.answer →
    report ≡ reported t → kept ≡ cells_after cells (view_of w.day) t → DayStudied (studied (day_in cells) f old) cells kept new report r
day-studied cells kept day seen f old new w studies answered counted stored held =
    record {
      tells = study-told day (day_in cells) seen f old new w studies answered counted stored;
      day-after = study-kept day (day_in cells) seen f old new w studies cells kept refl answered held;
    }

-- a release from a day in cells
pub day-released :
    (cells kept : List ℕ) (day : Day) → view_of day ≡ day_in cells → (u : ℕ) (w : Released) → Releases day u w →
    {t : Refusal} {report : List ℕ} → t ≡ told_by w.answer → report ≡ reported t →
    kept ≡ cells_after cells (view_of w.day) t → DayReleased cells kept u report t.number
day-released cells kept day seen u w releases {t} answered stored held =
    let d = day_in cells in
    let o = release_refusal d u in
    let tells : told_by w.answer ≡ told o = rw seen at releases.tells in
    let is : t ≡ told o = answered ∙ tells in
    let after : view_of w.day ≡ released d u = rw seen at releases.day-after in
    record {
      number = ap (λ (x : Refusal). x.number) is;
      reports = stored ∙ ap reported is;
      day-after =
          day-kept cells (released d u) (told o) kept
          (held ∙ rw (is, after))
          (λ z. released-few d u (told-released d u z))
          (λ h. sym after ∙ ap view_of (releases.very-day (rw (sym tells) at h)) ∙ seen);
    }
