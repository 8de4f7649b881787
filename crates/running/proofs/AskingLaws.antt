-- Laws of what a study asks of the running units. Assumes nothing.
use Rattle.std.specs.Prelude.{Option, None, Some}
use Prim.Native.Nat.{ℕ, suc, ◌+◌, ◌≤◌, ◌<◌}
use mathlib.Core.Path.{◌≡◌, refl, sym, ◌∙◌}
use mathlib.Core.Bool.{Bool, true, false, cond, not}
use mathlib.Core.List.{List, [], ◌∷◌}
use native.Mathlib.Nat.{le_of_suc-le-suc, not-suc-le-zero}
use native.Mathlib.Omega.{arith}
use lib.Dec.{eqb}
use lib.ListN.{length, get_or, drop}
use Rattle.base.specs.Search.{those}
use Rattle.base.proofs.Lists.{drop-next, drop-end}
use Rattle.base.proofs.Searches.{one-le}
use Rattle.base.specs.promises.Counting.{one, leading}
use Rattle.tables.specs.declared.files.Kind.{Kind}
use Rattle.outcome.specs.Day.{RunningUnit, runs, kind_running, would_run}
use Rattle.running.specs.promises.Asking.{newcomers}
use Rattle.running.specs.promises.Places.{unit_place, place_in}
use Rattle.running.specs.View.{missing, units_of}
use Rattle.running.specs.declared.units.Units.{Units}
use Rattle.running.proofs.ViewLaws.{unused, counted, first-at}
use Rattle.running.proofs.PlaceLaws.{place-runs, place-rests, place-was, no-place}

-- the kind by the unit's place
kind_at :
    (u : ℕ) (rs : List RunningUnit) → unit_place u rs < length rs → kind_running u rs ≡ Some (get_or rs (unit_place u rs) missing).kind
unfolding unit_place leading kind_running
kind_at u [] h = absurd (not-suc-le-zero h)
kind_at u (r ∷ rs) h = go (eqb r.unit u) h (kind_at u rs)
  where
    at : ℕ
    at = unit_place u rs

    go :
        (t : Bool) → cond (not t) (suc at) 0 < suc (length rs) →
        (at < length rs → kind_running u rs ≡ Some (get_or rs at missing).kind) →
        cond t (Some r.kind) (kind_running u rs) ≡ Some (get_or (r ∷ rs) (cond (not t) (suc at) 0) missing).kind
    go true k ih = refl
    go false k ih = ih (le_of_suc-le-suc k)

kind-none : (u : ℕ) (rs : List RunningUnit) → length rs ≤ unit_place u rs → kind_running u rs ≡ None
unfolding unit_place leading kind_running
kind-none u [] h = refl
kind-none u (r ∷ rs) h = go (eqb r.unit u) h (kind-none u rs)
  where
    at : ℕ
    at = unit_place u rs

    go :
        (t : Bool) → suc (length rs) ≤ cond (not t) (suc at) 0 → (length rs ≤ at → kind_running u rs ≡ None) →
        cond t (Some r.kind) (kind_running u rs) ≡ None
    go true k ih = absurd (not-suc-le-zero k)
    go false k ih = ih (le_of_suc-le-suc k)

-- what stands at the place that was found, and what it means that none was
module _ (us : Units) (u : ℕ) {o : Option ℕ} (found : o ≡ place_in u (units_of us)) where
  module _ {at : ℕ} (e : o ≡ Some at) where
    placed : (at ≡ unit_place u (units_of us)) × (at < length (units_of us))
    placed = place-was u (units_of us) found e

    there : unit_place u (units_of us) < length (units_of us)
    there = omega (arith, placed.0, placed.1)

    pub within : at < us.count
    within = omega (arith, placed.1, counted us)

    pub kind-here : at < length us.running → Some (get_or us.running at unused).kind ≡ kind_running u (units_of us)
    unfolding units_of
    kind-here room =
        sym (kind_at u (units_of us) there ∙ rw (← placed.0, first-at missing us.count us.running at within room))

    pub no-newcomer : 0 ≡ newcomers (units_of us) u
    unfolding newcomers
    no-newcomer = rw (place-runs u (units_of us) there)

  module _ (e : o ≡ None) where
    nowhere : length (units_of us) ≤ unit_place u (units_of us)
    nowhere = no-place u (units_of us) found e

    pub kind-nowhere : None ≡ kind_running u (units_of us)
    kind-nowhere = sym (kind-none u (units_of us) nowhere)

    pub a-newcomer : 1 ≡ newcomers (units_of us) u
    unfolding newcomers
    a-newcomer = rw (place-rests u (units_of us) nowhere)

pub newcomers-most : (rs : List RunningUnit) (u a : ℕ) → a ≡ newcomers rs u → a ≤ 1
unfolding newcomers
newcomers-most rs u a e = omega (arith, one-le (not (runs u rs)))

-- The first i of the units have been counted, those that don't run yet beside those that run.
pub record Counting (rs : List RunningUnit) (units : List ℕ) (i total : ℕ) : Type 0 where
  pub most : total ≤ length rs + i
  pub left : would_run units rs ≡ total + length (those (λ (u : ℕ). not (runs u rs)) (drop i units))

module _ (rs : List RunningUnit) (units : List ℕ) where
  pub counting-none : (total : ℕ) → total ≡ length rs → Counting rs units 0 total
  unfolding would_run
  counting-none total e = record { most = omega arith; left = rw e }

  module _ (i total : ℕ) (c : Counting rs units i total) where
    pub counting-next : (a : ℕ) → i < length units → a ≡ newcomers rs (get_or units i 0) → Counting rs units (i + 1) (total + a)
    unfolding newcomers those
    counting-next a h e =
        record {
          most = omega (arith, c.most, one-le (not (runs (get_or units i 0) rs)));
          left = c.left ∙ rw (drop-next 0 i units h, e) (go (not (runs (get_or units i 0) rs)) _);
        }
      where
        go : (t : Bool) (us : List ℕ) → total + length (cond t (get_or units i 0 ∷ us) us) ≡ total + one t + length us
        go true us = omega arith
        go false us = omega arith

    pub counting-over : length units ≤ i → total ≡ would_run units rs
    unfolding those
    counting-over h = sym (c.left ∙ rw (drop-end i units h) (omega arith))
