-- Laws of the units that are seen running, by their places. Assumes nothing.
use Prim.Native.Nat.{ℕ, zero, suc, ◌+◌, ◌≤◌, ◌<◌}
use mathlib.Core.Path.{◌≡◌, refl, sym, ◌∙◌, ap}
use mathlib.Core.List.{List, [], ◌∷◌, map}
use native.Mathlib.Numerals.{add-one}
use native.Mathlib.Nat.{le_of_suc-le-suc, not-suc-le-zero}
use lib.ListN.{length, get_or, take, drop, length-map}
use Rattle.tables.specs.declared.files.Kind.TheVariants.{M}
use Rattle.outcome.specs.Day.{RunningUnit}
use Rattle.running.specs.View.{unit_of, first_units, units_of}
use Rattle.running.specs.declared.units.Running.{Running}
use Rattle.running.specs.declared.units.Units.{Units}

-- what a place past an array's end is read as
abbrev pub unused : Running
unused = record { unit = 0; schedule = 0; kind = M }

pub first-length : (n : ℕ) (rs : List Running) → length (first_units n rs) ≡ n
unfolding first_units
first-length zero rs = refl
first-length (suc n) [] = ap suc (first-length n [])
first-length (suc n) (r ∷ rs) = ap suc (first-length n rs)

pub counted : (us : Units) → length (units_of us) ≡ us.count
unfolding units_of
counted us = first-length us.count us.running

-- the unit at a place, and those behind it
pub first_next :
    (d : Running) (n : ℕ) (rs : List Running) (i : ℕ) → i < n → i < length rs →
    drop i (first_units n rs) ≡ unit_of (get_or rs i d) ∷ drop (i + 1) (first_units n rs)
unfolding first_units
first_next d n rs i h k = rw add-one (go n rs i h k)
  where
    go :
        (n : ℕ) (rs : List Running) (i : ℕ) → i < n → i < length rs →
        drop i (first_units n rs) ≡ unit_of (get_or rs i d) ∷ drop (suc i) (first_units n rs)
    go zero rs i h k = absurd (not-suc-le-zero h)
    go (suc n) [] i h k = absurd (not-suc-le-zero k)
    go (suc n) (r ∷ rs) zero h k = refl
    go (suc n) (r ∷ rs) (suc i) h k = go n rs i (le_of_suc-le-suc h) (le_of_suc-le-suc k)

pub first-at :
    (m : RunningUnit) (n : ℕ) (rs : List Running) (i : ℕ) → i < n → i < length rs →
    get_or (first_units n rs) i m ≡ unit_of (get_or rs i unused)
unfolding first_units
first-at m zero rs i h k = absurd (not-suc-le-zero h)
first-at m (suc n) [] i h k = absurd (not-suc-le-zero k)
first-at m (suc n) (r ∷ rs) zero h k = refl
first-at m (suc n) (r ∷ rs) (suc i) h k = first-at m n rs i (le_of_suc-le-suc h) (le_of_suc-le-suc k)

-- where the places are there, the units are those in them
pub first-map : (n : ℕ) (rs : List Running) → n ≤ length rs → first_units n rs ≡ map unit_of (take n rs)
unfolding first_units
first-map zero rs h = refl
first-map (suc n) [] h = absurd (not-suc-le-zero h)
first-map (suc n) (r ∷ rs) h = ap (λ (us : List RunningUnit). unit_of r ∷ us) (first-map n rs (le_of_suc-le-suc h))

-- the length of an array of structs, which is known of what they are made of
pub mapped : {A B : Type 0} (f : A → B) (l : List A) (n : ℕ) → length (map f l) ≡ n → length l ≡ n
mapped f l n e = sym (length-map l f) ∙ e
