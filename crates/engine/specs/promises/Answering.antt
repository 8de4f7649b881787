-- What the steps behind deciding promise, of a study and of a preview, and those of a release. Assumes nothing.
use Rattle.std.specs.Prelude.{ℕ, List, length, Err, None, Ok, Option, Result, Some}
use Rattle.tables.specs.Refusals.{bare_refusal}
use Rattle.tables.specs.declared.answer.AnswerRow.{AnswerRow}
use Rattle.tables.specs.declared.files.Refusal.{Refusal}
use Rattle.outcome.specs.Study.{outcome, short_buffer}
use Rattle.engine.specs.Studying.{Comes}
use Rattle.engine.specs.View.{view_of}
use Rattle.engine.specs.declared.day.Day.{Day}
use Rattle.engine.specs.declared.previewing.Previewed.{Previewed}
use Rattle.engine.specs.declared.releasing.Released.{Released}
use Rattle.engine.specs.declared.studying.Studied.{Studied}

-- the very day, with a refusal
abbrev pub study_refused : Day → Refusal → Studied
study_refused d f = record { day = d; answer = Err f }

abbrev pub release_refused : Day → ℕ → Released
release_refused d n = record { day = d; answer = Err (bare_refusal n) }

-- the very day, with what a preview answers
abbrev pub looked_at : Day → Result AnswerRow Refusal → Previewed
looked_at d a = record { day = d; answer = a }

-- the row, or 31 where there is none
abbrev pub preview_as : Option AnswerRow → Result AnswerRow Refusal
preview_as None = Err (bare_refusal 31)
preview_as (Some r) = Ok r

-- answering with these rows, once they are decided: only 10 is left
abbrev pub Answers : Day → ℕ → List AnswerRow → List ℕ → List ℕ → Studied → Type 0
Answers day h rows old new r = Comes day (outcome (view_of day) h rows old (short_buffer rows (length old))) new r
