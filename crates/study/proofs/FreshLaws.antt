-- From what a study promises to what the program's does: it is one of a fresh day, what it wrote lies in the room, and room for the
-- longest answer is never too short. Assumes nothing.
use Rattle.tables.specs.Refusals.{count_of, told_by}
use Rattle.std.specs.Prelude.{Err, Ok, Result}
use Rattle.tables.specs.declared.files.Refusal.{Refusal}
use Prim.Native.Nat.{ℕ, ◌≤◌}
use mathlib.Core.Path.{◌≡◌, refl}
use mathlib.Core.Logic.{◌≢◌}
use mathlib.Core.List.{List}
use native.Mathlib.Omega.{arith}
use lib.ListN.{length}
use Rattle.checking.specs.Files.{Files}
use Rattle.outcome.specs.Day.{fresh_day}
use Rattle.longest.specs.Longest.{longest}
use Rattle.longest.proofs.EnoughRoom.{never-10}
use Rattle.engine.specs.Studying.{Studies}
use Rattle.engine.specs.View.{view_of}
use Rattle.engine.specs.declared.day.Day.{Day}
use Rattle.engine.specs.declared.studying.Studied.{Studied}
use Rattle.engine.proofs.StudyLaws.{written-within}
use Rattle.study.specs.FreshStudy.{StudiesFresh}

module _ (day : Day) (f : Files) (old new : List ℕ) (r : Studied) (studies : Studies day f old new r) where
  pub studies-fresh : view_of day ≡ fresh_day → StudiesFresh f old new r.answer
  studies-fresh e = record { tells = rw e at studies.tells; counts = rw e at studies.counts; bytes = rw e at studies.bytes }

  pub never-short : longest ≤ length old → (told_by r.answer).number ≢ 10
  never-short room = rw studies.tells (never-10 (view_of day) f old room)

  pub count-within : count_of r.answer ≤ length new
  count-within = go r.answer refl
    where
      go : (a : Result ℕ Refusal) → r.answer ≡ a → count_of a ≤ length new
      go (Ok count) e = rw e at (written-within day f old new r studies (rw e refl))
      go (Err x) e = omega arith
