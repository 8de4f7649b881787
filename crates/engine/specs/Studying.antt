-- What a study promises, for any day, any files and any buffer. Assumes nothing.
use Rattle.std.specs.Prelude.{ℕ, ◌<◌, ◌≡◌, ◌↔◌, List, take, Err, Ok, Result}
use Rattle.tables.specs.Refusals.{told_by, count_of}
use Rattle.tables.specs.declared.files.Refusal.{Refusal}
use Rattle.checking.specs.Files.{Files}
use Rattle.outcome.specs.Right.{Right}
use Rattle.outcome.specs.Study.{Outcome, studied}
use Rattle.engine.specs.View.{view_of}
use Rattle.engine.specs.declared.day.Day.{Day}
use Rattle.engine.specs.declared.studying.Studied.{Studied}

-- an outcome of a study of the day is what was answered, and what the buffer holds now
pub record Comes (day : Day) (o : Outcome) (new : List ℕ) (r : Studied) : Type 0 where
  pub tells : told_by r.answer ≡ o.told
  pub counts : count_of r.answer ≡ o.count
  pub day-after : view_of r.day ≡ o.day
  pub bytes : new ≡ o.buffer
  -- a refused call hands back the very day, the places that aren't counted too
  pub very-day : 0 < (told_by r.answer).number → r.day ≡ day

-- demands 1 and 2: result, day and every byte of the buffer are what the definition gives
abbrev pub Studies : Day → Files → List ℕ → List ℕ → Studied → Type 0
Studies day f old new r = Comes day (studied (view_of day) f old) new r

-- demand 3: "Take any accepted study, whatever day it was given, and lay any bytes beside the answer file it wrote. The two are
-- equal exactly when" they are right. The answer file is "the bytes it writes from the start of the lent buffer".
abbrev pub AnswersRight : Day → Files → List ℕ → Studied → Type 0
AnswersRight day f new r =
    (told_by r.answer).number ≡ 0 → (text : List ℕ) → (text ≡ take (count_of r.answer) new) ↔ Right (view_of day) f text
