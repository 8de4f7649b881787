-- Document 01, "The day": the view by which days are compared, well-formed days, release, and putting choices into a day.
-- "A day holds the hour of the last accepted study (none in a fresh one) and the running units, at most 64, each with kind and
-- schedule, by rising unit number. These limits belong to the day itself. A day with more than 64 units, units not strictly
-- rising, or a number outside its column's range is ill-formed." Assumes nothing.
use Rattle.std.specs.Prelude.{ℕ, ◌+◌, Bool, true, false, cond, not, ◌&&◌, List, [], ◌∷◌, leb, ltb, eqb, length, None, Option, Some}
use Rattle.base.specs.Search.{any, those, first_of}
use Rattle.tables.specs.Table.{hour_column, unit_column, schedule_column}
use Rattle.tables.specs.declared.files.Kind.{Kind}
use Rattle.tables.specs.declared.files.Refusal.{Refusal}
use Rattle.tables.specs.Refusals.{unless}
use Rattle.tables.specs.Values.{in_column}

-- a running unit, with the kind and number of its schedule
pub record RunningUnit : Type 0 where
  pub unit : ℕ
  pub schedule : ℕ
  pub kind : Kind

pub record DayView : Type 0 where
  pub hour : Option ℕ
  pub running : List RunningUnit

abbrev pub most_running : ℕ
most_running = 64

unfoldable pub hour_in_range : Option ℕ → Bool
hour_in_range None = true
hour_in_range (Some h) = in_column hour_column h

unfoldable pub unit_in_range : RunningUnit → Bool
unit_in_range r = in_column unit_column r.unit && in_column schedule_column r.schedule

-- each unit in its range, and its number above the one before, which is b
unfoldable pub rising_in_range : ℕ → List RunningUnit → Bool
rising_in_range b [] = true
rising_in_range b (r ∷ rs) = ltb b r.unit && unit_in_range r && rising_in_range r.unit rs

-- no unit's number is 0, so the first is above it
unfoldable pub day_formed : DayView → Bool
day_formed d = leb (length d.running) most_running && hour_in_range d.hour && rising_in_range 0 d.running

-- a fresh day
unfoldable pub fresh_day : DayView
fresh_day = record { hour = None; running = [] }

-- whether a unit runs
unfoldable pub runs : ℕ → List RunningUnit → Bool
runs u rs = any (λ (r : RunningUnit). eqb r.unit u) rs

-- "Release takes a unit out and changes nothing else"
unfoldable pub without : ℕ → DayView → DayView
without u d = record { hour = d.hour; running = those (λ (r : RunningUnit). not (eqb r.unit u)) d.running }

-- "Release checks 24, then 23."
unfoldable pub release_refusal : DayView → ℕ → Option Refusal
release_refusal d u = first_of (unless (day_formed d) 24 ∷ unless (runs u d.running) 23 ∷ [])

-- the day after a release: without the unit, or the very day where it is refused
unfoldable pub released : DayView → ℕ → DayView
released d u = after (release_refusal d u)
  where
    after : Option Refusal → DayView
    after None = without u d
    after (Some r) = d

-- a unit put among running units by rising number, in place of itself where it runs
unfoldable pub put : RunningUnit → List RunningUnit → List RunningUnit
put c [] = c ∷ []
put c (r ∷ rs) =
    let more = r ∷ put c rs in
    cond (ltb c.unit r.unit) (c ∷ r ∷ rs) (cond (eqb c.unit r.unit) (c ∷ rs) more)

unfoldable pub put_all : List RunningUnit → List RunningUnit → List RunningUnit
put_all [] rs = rs
put_all (c ∷ cs) rs = put_all cs (put c rs)

-- "An accepted study sets the hour and makes each of its units running on the chosen schedule; every other running unit
-- stays as it was."
unfoldable pub committed : ℕ → List RunningUnit → DayView → DayView
committed h cs d = record { hour = Some h; running = put_all cs d.running }

-- 20: "hour earlier than the day's"
unfoldable pub earlier : ℕ → Option ℕ → Bool
earlier h None = false
earlier h (Some last) = ltb h last

-- the kind on which a unit runs, none where it doesn't
unfoldable pub kind_running : ℕ → List RunningUnit → Option Kind
kind_running u [] = None
kind_running u (r ∷ rs) =
    let more = kind_running u rs in
    cond (eqb r.unit u) (Some r.kind) more

-- 22: "more than 64 units would run", those that run and those studied that don't run yet
unfoldable pub would_run : List ℕ → List RunningUnit → ℕ
would_run us rs = length rs + length (those (λ (u : ℕ). not (runs u rs)) us)
