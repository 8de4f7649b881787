-- From cells to the day that they mean, one place after the other. Assumes nothing.
use Rattle.std.specs.Prelude.{None, Some}
use Prim.Native.Nat.{ℕ, zero, suc, ◌+◌, ◌*◌, ◌≤◌, ◌<◌}
use mathlib.Core.Path.{◌≡◌, refl}
use mathlib.Core.Logic.{⊎_elim}
use mathlib.Core.List.{List, [], ◌∷◌}
use native.Mathlib.Omega.{arith}
use lib.ListN.{length, get_or, drop, get_or-eq_default}
use lib.Seq.{drop-cons}
use borrow.Author.Tests.{eq-eqb, ne_eqb}
use Rattle.base.proofs.Lists.{drop-end}
use Rattle.base.proofs.Tests.{lt-or-ge}
use Rattle.tables.specs.Rows.{kind_of}
use Rattle.tables.specs.Table.{M as letter_m, C as letter_c}
use Rattle.tables.specs.declared.files.Kind.TheVariants.{M, C}
use Rattle.outcome.specs.Day.{most_running}
use Rattle.running.specs.View.{unit_of, missing, first_units}
use Rattle.running.specs.declared.units.Running.{Running}
use Rattle.running.proofs.ViewLaws.{unused}
use Rattle.capping.specs.Days.{first_place, place_width, day_length, hour_in, unit_in, unit_at, units_from}

-- of all places the first i are taken over
pub record Taking (cells : List ℕ) (out : List Running) (i : ℕ) : Type 0 where
  pub upto : i ≤ most_running
  pub long : length cells ≡ day_length
  pub places : length out ≡ most_running
  pub taken : (j : ℕ) → j < i → unit_of (get_or out j unused) ≡ unit_at cells j

-- a place past the cells holds no unit
past-missing : (cells : List ℕ) (k : ℕ) → length cells ≡ day_length → most_running ≤ k → unit_at cells k ≡ missing
unfolding unit_in
past-missing cells k e h = rw (get_or-eq_default cells 0 {n = first_place + k * place_width + 1} (omega arith))

-- what all places hold is what is seen, also where more are counted than there are
from_place :
    (cells : List ℕ) (out : List Running) (i : ℕ) → Taking cells out i → most_running ≤ i → (k n : ℕ) →
    first_units n (drop k out) ≡ units_from cells k n
unfolding first_units units_from
from_place cells out i t h k zero = refl
from_place cells out i t h k (suc n) =
    ⊎_elim (inside (from_place cells out i t h (suc k) n)) (past (from_place cells out i t h (suc k) n)) (lt-or-ge k most_running)
  where
    inside :
        first_units n (drop (suc k) out) ≡ units_from cells (suc k) n → k < most_running →
        first_units (suc n) (drop k out) ≡ unit_at cells k ∷ units_from cells (suc k) n
    inside more l =
        let there : k < length out = omega (arith, t.places) in
        let before : k < i = omega arith in
        rw (drop-cons out k unused there, t.taken k before, more)

    past :
        first_units n (drop (suc k) out) ≡ units_from cells (suc k) n → most_running ≤ k →
        first_units (suc n) (drop k out) ≡ unit_at cells k ∷ units_from cells (suc k) n
    past more l =
        let none_here : drop k out ≡ [] = drop-end k out (omega (arith, t.places)) in
        let none-later : drop (suc k) out ≡ [] = drop-end (suc k) out (omega (arith, t.places)) in
        rw (none_here, past-missing cells k t.long l, ← more, none-later)

pub taking-over :
    (cells : List ℕ) (out : List Running) (i : ℕ) → Taking cells out i → most_running ≤ i → (n : ℕ) →
    first_units n out ≡ units_from cells 0 n
taking-over cells out i t h n = from_place cells out i t h 0 n

-- the hour, by its two cells
module _ (has h : ℕ) where
  pub hour-none : has ≡ 0 → None ≡ hour_in has h
  unfolding hour_in
  hour-none e = rw (eq-eqb has 0 e)

  pub hour-some : (has ≡ 0 → ⊥) → Some h ≡ hour_in has h
  unfolding hour_in
  hour-some e = rw (ne_eqb has 0 e)

-- a unit, by its three cells
module _ (u k s : ℕ) where
  pub unit-market : k ≡ letter_m → record { unit = u; schedule = s; kind = M } ≡ unit_in u k s
  unfolding unit_in kind_of
  unit-market e = rw e

  pub unit-cost : k ≡ letter_c → record { unit = u; schedule = s; kind = C } ≡ unit_in u k s
  unfolding unit_in kind_of
  unit-cost e = rw e

  pub unit-neither : (k ≡ letter_m → ⊥) → (k ≡ letter_c → ⊥) → missing ≡ unit_in u k s
  unfolding unit_in
  unit-neither m c = rw (ne_eqb k letter_m m, ne_eqb k letter_c c)
