-- Laws of the study: one for each way through the code, from what its steps answer to its outcome, and demand 3 from there.
-- Assumes nothing.
use Rattle.std.specs.Prelude.{None, Ok, Option, Some}
use Prim.Native.Nat.{ℕ, ◌≤◌, ◌<◌}
use mathlib.Core.Path.{◌≡◌, refl, sym, ◌∙◌, ap}
use mathlib.Core.List.{List, map}
use native.Mathlib.Omega.{arith}
use lib.Dec.{leb}
use lib.ListN.{length, take}
use borrow.Author.Tests.{le-leb, lt-leb}
use Rattle.base.specs.Text.{written}
use Rattle.base.specs.promises.Writing.{Wrote}
use Rattle.tables.specs.declared.files.Refusal.{Refusal}
use Rattle.tables.specs.Refusals.{bare_refusal, count_of, told_by}
use Rattle.tables.specs.declared.answer.AnswerRow.{AnswerRow}
use Rattle.checking.specs.Files.{Files, constraint_of}
use Rattle.outcome.specs.Answer.{answer_text}
use Rattle.outcome.specs.Day.{put_all, committed}
use Rattle.outcome.specs.Study.{
  chosen,
  outcome,
  short_buffer,
  study_rows,
  answer_file,
  decision_refusal,
  study_refusal,
  studied,
}
use Rattle.outcome.proofs.Demand3.{demand-3}
use Rattle.outcome.proofs.RefusalOrder.{refused-deciding, short-buffer-last, accepted-deciding}
use Rattle.outcome.proofs.Numbered.{told-accepted}
use Rattle.outcome.proofs.StudyBytes.{file-written as bytes-written, written-within as within}
use Rattle.running.specs.View.{units_of}
use Rattle.running.specs.declared.units.Units.{Units}
use Rattle.engine.specs.Studying.{Comes, Studies, AnswersRight}
use Rattle.engine.specs.View.{view_of}
use Rattle.engine.specs.declared.day.Day.{Day}
use Rattle.engine.specs.declared.studying.Studied.{Studied}
use Rattle.engine.specs.promises.Answering.{study_refused, Answers}
use Rattle.tables.proofs.RefusalLaws.{unless-broken, unless-kept}

module _ (day : Day) (h : ℕ) (rows : List AnswerRow) (buffer : List ℕ) where
  -- refused, with the very day and buffer
  pub comes-refused :
      (o : Option Refusal) (f : Refusal) (r : Studied) → o ≡ Some f → r ≡ study_refused day f →
      Comes day (outcome (view_of day) h rows buffer o) buffer r
  unfolding outcome
  comes-refused o f r e g = rw (e, g) (record { tells = refl; counts = refl; day-after = refl; bytes = refl; very-day = λ _. refl })

  -- accepted, written and committed
  pub comes-written :
      (o : Option Refusal) (after : Units) (new : List ℕ) (count : ℕ) → o ≡ None → Wrote (answer_text rows) count buffer new →
      units_of after ≡ put_all (map chosen rows) (view_of day).running →
      Comes day (outcome (view_of day) h rows buffer o) new (record { day = record { hour = Some h; units = after }; answer = Ok count })
  unfolding outcome written committed view_of
  comes-written o after new count e w v =
      rw e
      (record {
        tells = refl;
        counts = w.counted;
        day-after = rw v;
        bytes = w.written;
        very-day = λ h. absurd (omega (arith, h));
      })

  -- once the rows are decided: 10, or written
  module _ (n : ℕ) (long : n ≡ length (answer_text rows)) where
    pub answers-short-buffer : length buffer < n → (r : Studied) → r ≡ study_refused day (bare_refusal 10) → Answers day h rows buffer buffer r
    unfolding short_buffer
    answers-short-buffer e r g =
        comes-refused _ (bare_refusal 10) r
        (unless-broken (leb (length (answer_text rows)) (length buffer)) 10 (lt-leb (length (answer_text rows)) (length buffer) (omega (arith, long))))
        g

    pub answers-written :
        n ≤ length buffer → (after : Units) (new : List ℕ) (count : ℕ) → Wrote (answer_text rows) count buffer new →
        units_of after ≡ put_all (map chosen rows) (view_of day).running →
        Answers day h rows buffer new (record { day = record { hour = Some h; units = after }; answer = Ok count })
    unfolding short_buffer
    answers-written e after new count =
        comes-written _ after new count
        (unless-kept (leb (length (answer_text rows)) (length buffer)) 10 (le-leb (length (answer_text rows)) (length buffer) (omega (arith, long))))

-- by the files: what deciding refuses, and what is answered once the rows are decided
module _ (day : Day) (f : Files) (buffer : List ℕ) where
  pub study-refused :
      (e : Refusal) → decision_refusal (view_of day) f ≡ Some e → (r : Studied) → r ≡ study_refused day e → Studies day f buffer buffer r
  unfolding studied answer_file
  study-refused e refused r g =
      comes-refused day (constraint_of f.constraint).hour (study_rows (view_of day) f) buffer _ e r
      (refused-deciding (view_of day) f (length buffer) e refused)
      g

  pub study-answered :
      decision_refusal (view_of day) f ≡ None → (h : ℕ) → h ≡ (constraint_of f.constraint).hour → (rows : List AnswerRow) →
      rows ≡ study_rows (view_of day) f → (new : List ℕ) (r : Studied) → Answers day h rows buffer new r → Studies day f buffer new r
  unfolding studied answer_file
  study-answered ok h at-hour rows laid new r answers =
      rw (short-buffer-last (view_of day) f (length buffer) ok) (rw (at-hour, laid) at answers)

-- demand 3
module _ (day : Day) (f : Files) (old new : List ℕ) (r : Studied) (studies : Studies day f old new r) where
  module _ (zero : (told_by r.answer).number ≡ 0) where
    accepted : study_refusal (view_of day) f (length old) ≡ None
    accepted = told-accepted (view_of day) f old (omega (arith, ap (λ (x : Refusal). x.number) studies.tells, zero))

    -- the bytes that were written lie in the buffer
    pub written-within : count_of r.answer ≤ length new
    written-within = rw (studies.counts, studies.bytes) (within (view_of day) f old accepted)

    file-written : take (count_of r.answer) new ≡ answer_file (view_of day) f
    file-written = rw (studies.counts, studies.bytes) (bytes-written (view_of day) f old accepted)

  pub answers-right : AnswersRight day f new r
  answers-right zero text =
      let exactly = demand-3 (view_of day) f (accepted-deciding (view_of day) f (length old) (accepted zero)) text in
      (λ same. exactly.0 (same ∙ file-written zero), λ right. exactly.1 right ∙ sym (file-written zero))
