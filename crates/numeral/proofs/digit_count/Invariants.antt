-- `numeral::digit_count` meets its contract. The loop's invariant: the digits counted and those of what is left are one
-- more than the numeral has, since the count starts at 1. What is left falls. Assumes nothing.
use Prim.Native.Nat.{◌+◌}
use mathlib.Core.Path.{◌≡◌}
use lib.ListN.{length}
use Rattle.numeral.specs.Numeral.{digits}
use Rattle.numeral.proofs.digit_count.Given as goal

abbrev pub invariant-loop-left : goal.invariant-loop-left
invariant-loop-left l = l.count + length (digits l.left) ≡ length (digits l.n) + 1

abbrev pub decreases-loop-left : goal.decreases-loop-left
decreases-loop-left l = l.left
