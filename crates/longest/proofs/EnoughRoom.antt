-- Document 01: "Its buffer holds the longest answer." A study that is lent as many bytes is never refused for a short buffer.
-- Assumes nothing.
use Rattle.std.specs.Prelude.{None, Option, Some}
use Prim.Native.Nat.{ℕ, ◌≤◌}
use mathlib.Core.Path.{◌≡◌, refl}
use mathlib.Core.Logic.{◌≢◌}
use mathlib.Core.List.{List}
use native.Mathlib.Omega.{arith}
use lib.ListN.{length}
use Rattle.tables.specs.Refusals.{told}
use Rattle.tables.specs.declared.files.Refusal.{Refusal}
use Rattle.checking.specs.Files.{Files}
use Rattle.outcome.specs.Day.{DayView}
use Rattle.outcome.specs.Study.{decision_refusal, studied}
use Rattle.outcome.proofs.Numbered.{study-told, decision-not-10}
use Rattle.outcome.proofs.RefusalOrder.{enough-room}
use Rattle.longest.specs.Longest.{longest}
use Rattle.longest.proofs.StudyLongest.{study-longest}

pub never-10 : (d : DayView) (f : Files) (buffer : List ℕ) → longest ≤ length buffer → (studied d f buffer).told.number ≢ 10
never-10 d f buffer room =
    rw (study-told d f buffer, enough-room d f (length buffer) (λ ok. omega (arith, study-longest d f ok))) (go (decision_refusal d f) refl)
  where
    go : (o : Option Refusal) → decision_refusal d f ≡ o → (told o).number ≢ 10
    go None e = λ z. absurd (omega (arith, z))
    go (Some r) e = decision-not-10 d f r e
