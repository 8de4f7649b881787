-- Units numbered one a turn. Assumes nothing.
use mathlib.Core.Path.{refl}
use native.Mathlib.Numerals.{add-one}
use Rattle.curves.specs.promises.Keys.{numbered}
use Rattle.curves.proofs.keys.number_units.Goals as goal

pub loop-i-init : goal.loop-i-init
unfolding numbered
loop-i-init c = refl

pub loop-i-preserved : goal.loop-i-preserved
unfolding numbered
loop-i-preserved c = rw (c.loop-i.invariant, add-one c.loop-i.i)
