-- Units numbered one a turn. Assumes nothing.
use mathlib.Core.Path.{◌≡◌}
use Rattle.curves.specs.promises.Keys.{numbered}
use Rattle.curves.proofs.keys.number_units.Given as goal

abbrev pub invariant-loop-i : goal.invariant-loop-i
invariant-loop-i l = l.numbers ≡ numbered l.units l.i l.initial.numbers
