-- The bytes passed are before the first stop. Assumes nothing.
use Rattle.std.proofs.Common.{◌≡◌, ◌+◌, length, drop}
use Rattle.texts.specs.promises.Parting.{before}
use Rattle.texts.proofs.parting.end.Given as goal

abbrev pub invariant-loop-i : goal.invariant-loop-i
invariant-loop-i l = length (before l.stop l.text) ≡ l.i + length (before l.stop (drop l.i l.text))
