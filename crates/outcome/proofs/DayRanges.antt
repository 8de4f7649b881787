-- The ranges of a day's numbers, out of the fixed table. Assumes nothing.
use Rattle.std.specs.Prelude.{Some}
use Prim.Native.Nat.{ℕ, ◌≤◌}
use mathlib.Core.Path.{◌≡◌, refl}
use mathlib.Core.Bool.{true, ◌&&◌}
use native.Mathlib.Omega.{arith}
use lib.Dec.{leb}
use borrow.Author.Tests.{le-leb}
use Rattle.tables.specs.Table.{latest_hour}
use Rattle.tables.specs.Values.{in_column}
use Rattle.outcome.specs.Day.{RunningUnit, hour_in_range, unit_in_range}

pub unit-range :
    (r : RunningUnit) →
    unit_in_range r ≡ ((leb 1 r.unit && leb r.unit 9999) && (leb 1 r.schedule && leb r.schedule 99))
unfolding unit_in_range in_column
unit-range r = refl

pub unit-in-range :
    (r : RunningUnit) → 1 ≤ r.unit → r.unit ≤ 9999 → 1 ≤ r.schedule → r.schedule ≤ 99 → unit_in_range r ≡ true
unit-in-range r a b c d =
    rw (unit-range r, le-leb 1 r.unit a, le-leb r.unit 9999 b, le-leb 1 r.schedule c, le-leb r.schedule 99 d)

pub hour-in-range : (h : ℕ) → h ≤ latest_hour → hour_in_range (Some h) ≡ true
unfolding hour_in_range in_column
hour-in-range h e = rw (le-leb 0 h (omega arith), le-leb h latest_hour e)
