-- Laws of a release: its outcomes. Assumes nothing.
use Rattle.std.specs.Prelude.{Ok, Option, Some, None}
use Prim.Native.Nat.{ℕ, ◌≤◌, ◌<◌}
use mathlib.Core.Path.{◌≡◌, refl}
use mathlib.Core.Bool.{true, false}
use native.Mathlib.Omega.{arith}
use lib.ListN.{length}
use Rattle.tables.specs.Refusals.{bare_refusal}
use Rattle.outcome.specs.Day.{day_formed, without, release_refusal, released}
use Rattle.outcome.proofs.DayRelease.{is-24, is-23, is-done}
use Rattle.outcome.proofs.DayLaws.{formed}
use Rattle.running.specs.promises.Places.{unit_place, place_in, removed}
use Rattle.running.specs.View.{units_of}
use Rattle.running.specs.declared.units.Units.{Units}
use Rattle.running.proofs.PlaceLaws.{place-runs, place-rests, place-was, no-place, taken_out}
use Rattle.running.proofs.ViewLaws.{counted}
use Rattle.engine.specs.View.{view_of}
use Rattle.engine.specs.Releasing.{Releases}
use Rattle.engine.specs.declared.day.Day.{Day}
use Rattle.engine.specs.declared.releasing.Released.{Released}
use Rattle.engine.specs.promises.Answering.{release_refused}

-- a refusal with a number hands back the very day
refuses : (day : Day) (u n : ℕ) (r : Released) → release_refusal (view_of day) u ≡ Some (bare_refusal n) → r ≡ release_refused day n → Releases day u r
unfolding released
refuses day u n r e f =
    rw f
    (record {
      tells = rw e;
      day-after = rw e;
      very-day = λ _. refl;
    })

pub releases :
    (day : Day) (after : Units) (u at : ℕ) → day_formed (view_of day) ≡ true → {o : Option ℕ} → o ≡ place_in u (units_of day.units) →
    o ≡ Some at → units_of after ≡ removed at (units_of day.units) →
    Releases day u (record { day = record { hour = day.hour; units = after }; answer = Ok tt })
unfolding released without view_of
releases day after u at f found h gone =
    let placed = place-was u (units_of day.units) found h in
    let there : unit_place u (units_of day.units) < length (units_of day.units) = omega (arith, placed.0, placed.1) in
    let none-refused = is-done (view_of day) u f (place-runs u (units_of day.units) there) in
    let out = taken_out u (formed (view_of day) f).ordered there in
    record {
      tells = rw none-refused;
      day-after = rw (none-refused, ← out, ← placed.0, ← gone);
      very-day = λ n. absurd (omega (arith, n));
    }

pub refuses-23 :
    (day : Day) (u : ℕ) (r : Released) → day_formed (view_of day) ≡ true → {o : Option ℕ} → o ≡ place_in u (units_of day.units) →
    o ≡ None → r ≡ release_refused day 23 → Releases day u r
unfolding view_of
refuses-23 day u r f found h g =
    refuses day u 23 r (is-23 (view_of day) u f (place-rests u (units_of day.units) (no-place u (units_of day.units) found h))) g

pub refuses-24 : (day : Day) (u : ℕ) (r : Released) → day_formed (view_of day) ≡ false → r ≡ release_refused day 24 → Releases day u r
refuses-24 day u r f g = refuses day u 24 r (is-24 (view_of day) u f) g
