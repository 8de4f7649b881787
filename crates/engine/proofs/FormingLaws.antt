-- Laws of well-formed days, by their hour and their units. Assumes nothing.
use Prim.Native.Nat.{◌≤◌}
use mathlib.Core.Path.{◌≡◌, refl, sym, ◌∙◌}
use mathlib.Core.Bool.{Bool, true, false, ◌&&◌}
use lib.Dec.{leb}
use lib.ListN.{length}
use Rattle.base.proofs.Tests.{and-snd}
use Rattle.outcome.specs.Day.{DayView, most_running, hour_in_range, rising_in_range, day_formed}
use Rattle.running.specs.promises.Forming.{units_formed}
use Rattle.running.specs.View.{units_of}
use Rattle.running.proofs.FormingLaws.{formed-few}
use Rattle.engine.specs.View.{view_of}
use Rattle.engine.specs.declared.day.Day.{Day}

swapped : (few timely rising : Bool) → (few && timely && rising) ≡ (timely && (few && rising))
swapped true true rising = refl
swapped true false rising = refl
swapped false true rising = refl
swapped false false rising = refl

pub by_parts : (d : DayView) → day_formed d ≡ (hour_in_range d.hour && units_formed d.running)
unfolding day_formed units_formed
by_parts d = swapped (leb (length d.running) most_running) (hour_in_range d.hour) (rising_in_range 0 d.running)

-- the units of a well-formed day are well-formed, and no more than it has places
module _ (day : Day) (e : day_formed (view_of day) ≡ true) where
  pub formed-units : units_formed (units_of day.units) ≡ true
  unfolding view_of
  formed-units = and-snd (hour_in_range (view_of day).hour) (units_formed (units_of day.units)) (sym (by_parts (view_of day)) ∙ e)

  pub few-units : day.units.count ≤ most_running
  few-units = formed-few day.units formed-units
