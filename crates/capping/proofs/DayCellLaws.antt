-- The cells of a day mean that day. Assumes nothing.
use Rattle.std.specs.Prelude.{None, Option, Some}
use Prim.Native.Nat.{ℕ, zero, suc, ◌+◌, ◌*◌, ◌≤◌}
use mathlib.Core.Path.{◌≡◌, refl, sym, ◌∙◌, ap}
use mathlib.Core.List.{List, [], ◌∷◌, ◌++◌}
use native.Mathlib.Nat.{suc-mul, le_of_suc-le-suc, not-suc-le-zero}
use native.Mathlib.Omega.{arith}
use lib.ListN.{length, get_or, drop}
use lib.Seq.{drop-drop, get_or-drop}
use Rattle.tables.specs.Rows.{kind_of, letter_of}
use Rattle.tables.specs.declared.files.Kind.{Kind}
use Rattle.tables.specs.declared.files.Kind.TheVariants.{M, C}
use Rattle.outcome.specs.Day.{RunningUnit, DayView, most_running, fresh_day}
use Rattle.engine.specs.View.{view_of}
use Rattle.engine.specs.declared.day.Day.{Day}
use Rattle.capping.specs.Days.{first_place, place_width, hour_in, unit_in, units_from, day_in, hour_cells, place_cells, day_cells}

hour-back : (o : Option ℕ) (s : List ℕ) → hour_in (get_or (hour_cells o ++ s) 0 0) (get_or (hour_cells o ++ s) 1 0) ≡ o
unfolding hour_in hour_cells
hour-back None s = refl
hour-back (Some h) s = refl

unit-back : (u s : ℕ) (k : Kind) → unit_in u (letter_of k) s ≡ record { unit = u; schedule = s; kind = k }
unfolding unit_in kind_of
unit-back u s M = refl
unit-back u s C = refl

units-back :
    (rs : List RunningUnit) (n k : ℕ) (cells : List ℕ) → length rs ≤ n → drop (first_place + k * place_width) cells ≡ place_cells n rs →
    units_from cells k (length rs) ≡ rs
unfolding units_from place_cells
units-back [] n k cells h e = refl
units-back (r ∷ rs) zero k cells h e = absurd (not-suc-le-zero h)
units-back (r ∷ rs) (suc n) k cells h e =
    let at = first_place + k * place_width in
    let still : at + 0 ≡ at = omega arith in
    let unit : get_or cells at 0 ≡ r.unit = sym (get_or-drop at cells 0 0 ∙ ap (λ (j : ℕ). get_or cells j 0) still) ∙ rw e in
    let kind : get_or cells (at + 1) 0 ≡ letter_of r.kind = sym (get_or-drop at cells 1 0) ∙ rw e in
    let schedule : get_or cells (at + 2) 0 ≡ r.schedule = sym (get_or-drop at cells 2 0) ∙ rw e in
    let next : first_place + suc k * place_width ≡ at + 3 = rw (suc-mul k place_width) (omega arith) in
    let rest : drop (first_place + suc k * place_width) cells ≡ place_cells n rs = rw next (sym (drop-drop 3 at cells) ∙ rw e) in
    rw (unit, kind, schedule, unit-back r.unit r.schedule r.kind, units-back rs n (suc k) cells (le_of_suc-le-suc h) rest)

running-back :
    (o : Option ℕ) (rs : List RunningUnit) → length rs ≤ most_running →
    units_from (hour_cells o ++ (length rs ∷ place_cells most_running rs)) 0 (length rs) ≡ rs
unfolding hour_cells
running-back None rs few = units-back rs most_running 0 _ few refl
running-back (Some h) rs few = units-back rs most_running 0 _ few refl

third : (o : Option ℕ) (n : ℕ) (s : List ℕ) → get_or (hour_cells o ++ (n ∷ s)) 2 0 ≡ n
unfolding hour_cells
third None n s = refl
third (Some h) n s = refl

pub cells-mean : (d : DayView) → length d.running ≤ most_running → day_in (day_cells d) ≡ d
unfolding day_in day_cells
cells-mean d few =
    rw (
      hour-back d.hour (length d.running ∷ place_cells most_running d.running),
      third d.hour (length d.running) (place_cells most_running d.running),
      running-back d.hour d.running few,
    )

-- the cells of a fresh day
pub fresh-laid :
    (day : Day) (new : List ℕ) → view_of day ≡ fresh_day → new ≡ day_cells (view_of day) → (new ≡ day_cells fresh_day) × (day_in new ≡ fresh_day)
unfolding fresh_day
fresh-laid day new e f =
    let laid : new ≡ day_cells fresh_day = f ∙ ap day_cells e in
    (laid, rw laid (cells-mean fresh_day (omega arith)))
