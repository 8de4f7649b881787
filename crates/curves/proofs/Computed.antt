-- What the definitions of curves give for small curves, as tables that the checker computes. Assumes nothing.
use Rattle.std.specs.Prelude.{None, Some}
use Prim.Native.Nat.{ℕ}
use mathlib.Core.Path.{◌≡◌, refl}
use mathlib.Core.List.{List, [], ◌∷◌, map}
use Rattle.base.specs.Search.{first, any, find, those}
use Rattle.tables.specs.Rows.{ScheduleRow, PointRow}
use Rattle.tables.specs.Table.{M, C}
use Rattle.curves.specs.Curves.{stray_point, disordered, ends_low, price_at, priced}
use Rattle.curves.proofs.Computing.{curves_all}

-- opens the searches too
unfoldable searches_all : Unit {0}
unfolding first any find those
searches_all = tt

-- a point of unit 11, schedule 2, for an hour, and a row of it
abbrev point : ℕ → ℕ → ℕ → PointRow
point hour mw price = record { unit = 11; schedule = 2; hour = hour; mw = mw; price = price }

abbrev row_of : ℕ → ℕ → ℕ → ℕ → ScheduleRow
row_of kind hour ecomin price =
    record {
      unit = 11;
      schedule = 2;
      kind = kind;
      hour = hour;
      ecomin = ecomin;
      price = price;
      noload = 50000;
      startup = 20000;
      minrun = 1;
    }

abbrev curve : List PointRow
curve = point 5 50 1000 ∷ point 5 100 2000 ∷ []

abbrev rows : List ScheduleRow
rows = row_of C 5 100 3000 ∷ row_of C 6 70 3000 ∷ []

-- points at such mw and prices, each as its mw
abbrev points : List ℕ → List PointRow
points = map (λ (p : ℕ). point 5 p p)

-- the price at ecomin is that of the first point that reaches it, dearer than the column or not
pub prices :
    (map (λ (e : ℕ). price_at e curve) (0 ∷ 50 ∷ 51 ∷ 100 ∷ 101 ∷ []) ≡ Some 1000 ∷ Some 1000 ∷ Some 2000 ∷ Some 2000 ∷ None ∷ [])
    × (priced curve (row_of C 5 100 3000 ∷ row_of M 5 50 900 ∷ row_of C 6 50 3000 ∷ [])
    ≡ row_of C 5 100 2000 ∷ row_of M 5 50 1000 ∷ row_of C 6 50 3000 ∷ [])
unfolding curves_all searches_all
prices = (refl, refl)

-- 32: the first point of an hour that has no row
pub strays :
    (stray_point rows curve ≡ None)
    × (stray_point rows (point 5 50 1000 ∷ point 7 50 1000 ∷ point 8 50 1000 ∷ []) ≡ Some 2)
    × (stray_point [] curve ≡ Some 1)
unfolding curves_all searches_all
strays = (refl, refl, refl)

-- 33: against the curve's own point before, equal is not above, and ten are enough
pub orders :
    (disordered curve ≡ None)
    × (disordered (point 5 50 1000 ∷ point 5 50 2000 ∷ []) ≡ Some 2)
    × (disordered (point 5 50 1000 ∷ point 5 60 1000 ∷ []) ≡ Some 2)
    × (disordered (point 5 50 1000 ∷ point 6 40 900 ∷ point 5 60 1100 ∷ point 6 45 950 ∷ []) ≡ None)
    × (disordered (point 5 50 1000 ∷ point 6 70 3000 ∷ point 5 60 900 ∷ []) ≡ Some 3)
    × (disordered (points (1 ∷ 2 ∷ 3 ∷ 4 ∷ 5 ∷ 6 ∷ 7 ∷ 8 ∷ 9 ∷ 10 ∷ [])) ≡ None)
    × (disordered (points (1 ∷ 2 ∷ 3 ∷ 4 ∷ 5 ∷ 6 ∷ 7 ∷ 8 ∷ 9 ∷ 10 ∷ 11 ∷ 12 ∷ [])) ≡ Some 11)
unfolding curves_all searches_all
orders = (refl, refl, refl, refl, refl, refl, refl)

-- 34: the least of the last records of the curves that end below their row's ecomin
pub ends :
    (ends_low rows (point 5 50 1000 ∷ point 5 100 2000 ∷ point 6 70 1000 ∷ []) ≡ None)
    × (ends_low rows (point 5 50 1000 ∷ point 6 60 1000 ∷ point 5 99 2000 ∷ point 6 69 2000 ∷ []) ≡ Some 3)
    × (ends_low rows (point 6 60 1000 ∷ point 5 50 1000 ∷ point 5 100 2000 ∷ []) ≡ Some 1)
unfolding curves_all searches_all
ends = (refl, refl, refl)
