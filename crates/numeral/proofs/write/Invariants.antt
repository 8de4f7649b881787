-- `numeral::write` meets its contract. The loop's invariant: `at` is how many digits are still to be written, the digits
-- of `rest`; in front of what stands from `at` on they make the whole numeral, in front of the buffer's old rest.
-- What is to be written falls. Assumes nothing.
use Prim.Native.Nat.{◌≤◌}
use mathlib.Core.Path.{◌≡◌}
use lib.ListN.{length, drop}
use Rattle.numeral.specs.Numeral.{digits}
use Rattle.numeral.proofs.Writing.{before}
use Rattle.numeral.proofs.write.Given as goal

abbrev pub invariant-loop-rest : goal.invariant-loop-rest
invariant-loop-rest l =
    (l.at ≡ length (digits l.rest))
    × (l.at ≤ length l.out)
    × (length l.out ≡ length l.initial.out)
    × (before l.rest (drop l.at l.out) ≡ before l.n (drop l.count l.initial.out))

abbrev pub decreases-loop-rest : goal.decreases-loop-rest
decreases-loop-rest l = l.rest
