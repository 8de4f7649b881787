-- The search for a unit among the running ones: none before has its number. Assumes nothing.
use Prim.Native.Nat.{ℕ, ◌<◌}
use mathlib.Core.Path.{◌≡◌}
use lib.ListN.{get_or}
use Rattle.running.proofs.ViewLaws.{unused}
use Rattle.running.proofs.units.Units.place_of.Given as goal

abbrev pub invariant-loop-i : goal.invariant-loop-i
invariant-loop-i l = (k : ℕ) → k < l.i → (get_or l.r-items k unused).unit ≡ l.unit → ⊥
