-- `numeral::read` meets its contract. The loop's invariant: the text's number is the number that the bytes that are
-- left make behind `n`, and `n` is not above the maximum. Assumes nothing.
use Prim.Native.Nat.{◌≤◌}
use mathlib.Core.Path.{◌≡◌}
use lib.ListN.{drop}
use Rattle.numeral.specs.Numeral.{number, digits_from}
use Rattle.numeral.proofs.read.Given as goal

abbrev pub invariant-loop-b : goal.invariant-loop-b
invariant-loop-b l =
    (l.n ≤ l.most) × (number l.s ≡ digits_from l.n (drop l.b-index l.s))
