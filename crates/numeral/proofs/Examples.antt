-- Numerals read and written, computed. Assumes nothing.
use Rattle.std.specs.Prelude.{None, Some}
use Prim.Native.Nat.{◌-◌, ◌^◌}
use mathlib.Core.Path.{◌≡◌, refl}
use Rattle.base.specs.Text.{bytes}
use Rattle.numeral.specs.Numeral.{number, within, digits, digits_from, leading_zero, digits_before}

writes-zero : digits 0 ≡ bytes "0"
unfolding digits digits_before
writes-zero = refl

writes-inner-zeros : digits 1030000 ≡ bytes "1030000"
unfolding digits digits_before
writes-inner-zeros = refl

writes-largest : digits (2 ^ 64 - 1) ≡ bytes "18446744073709551615"
unfolding digits digits_before
writes-largest = refl

reads-zero : number (bytes "0") ≡ Some 0
unfolding number digits_from leading_zero
reads-zero = refl

reads-past-64-bits : number (bytes "18446744073709551616") ≡ Some (2 ^ 64)
unfolding number digits_from leading_zero
reads-past-64-bits = refl

reads-no-leading-zero : number (bytes "007") ≡ None
unfolding number digits_from leading_zero
reads-no-leading-zero = refl

reads-no-sign : number (bytes "+7") ≡ None
unfolding number digits_from leading_zero
reads-no-sign = refl

reads-no-blank : number (bytes "") ≡ None
unfolding number digits_from leading_zero
reads-no-blank = refl

reads-no-colon : number (bytes "1:") ≡ None
unfolding number digits_from leading_zero
reads-no-colon = refl

keeps-ends : within 7 7 (Some 7) ≡ Some 7
unfolding within
keeps-ends = refl

keeps-none-below : within 8 9 (Some 7) ≡ None
unfolding within
keeps-none-below = refl

keeps-none-above : within 5 6 (Some 7) ≡ None
unfolding within
keeps-none-above = refl
