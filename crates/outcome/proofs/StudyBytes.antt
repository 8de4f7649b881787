-- The bytes of an accepted study: those that it counts from the start of the lent buffer are its answer file. Assumes nothing.
use Rattle.std.specs.Prelude.{None}
use Prim.Native.Nat.{ℕ, ◌≤◌}
use mathlib.Core.Path.{◌≡◌, refl}
use mathlib.Core.List.{List, ◌++◌}
use native.Mathlib.Omega.{arith}
use lib.ListN.{length, take, drop, length-append}
use lib.Seq.{take_at}
use Rattle.base.specs.Text.{written}
use Rattle.checking.specs.Files.{Files}
use Rattle.outcome.specs.Day.{DayView}
use Rattle.outcome.specs.Study.{outcome, answer_file, study_refusal, studied}

module _ (d : DayView) (f : Files) (buffer : List ℕ) (ok : study_refusal d f (length buffer) ≡ None) where
  counted : (studied d f buffer).count ≡ length (answer_file d f)
  unfolding studied outcome answer_file
  counted = rw ok

  held : (studied d f buffer).buffer ≡ answer_file d f ++ drop (length (answer_file d f)) buffer
  unfolding studied outcome written answer_file
  held = rw ok

  pub file-written : take (studied d f buffer).count (studied d f buffer).buffer ≡ answer_file d f
  file-written =
      let text = answer_file d f in
      rw (counted, held) (take_at text (drop (length text) buffer) (length text) refl)

  -- they lie in the buffer
  pub written-within : (studied d f buffer).count ≤ length (studied d f buffer).buffer
  written-within =
      let text = answer_file d f in
      rw (counted, held, length-append text (drop (length text) buffer)) (omega arith)
