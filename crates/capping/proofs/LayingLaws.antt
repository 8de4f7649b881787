-- From a day to its cells, one place after the other. Assumes nothing.
use Rattle.std.specs.Prelude.{None, Option, Some}
use Prim.Native.Nat.{ℕ, zero, suc, ◌+◌, ◌*◌, ◌≤◌, ◌<◌}
use mathlib.Core.Path.{◌≡◌, refl, sym, ◌∙◌, ap}
use mathlib.Core.Bool.{Bool, true, false, cond}
use mathlib.Core.List.{List, [], ◌∷◌, ◌++◌, append_assoc}
use native.Mathlib.Nat.{suc-mul, le_of_suc-le-suc, not-suc-le-zero}
use native.Mathlib.Omega.{arith}
use lib.Dec.{ltb}
use lib.ListN.{length, get_or, take, drop, set, length-set, length-append}
use lib.Seq.{sets-eq, length-sets, length-take-le, take_all, take_at, take-add}
use borrow.Author.Tests.{ltb-true, ltb-false}
use Rattle.outcome.specs.Day.{RunningUnit, DayView, most_running}
use Rattle.running.specs.View.{unit_of, missing, first_units, units_of}
use Rattle.running.specs.declared.units.Units.{Units}
use Rattle.running.proofs.ViewLaws.{unused, first-length, counted, first-at}
use Rattle.engine.specs.View.{view_of}
use Rattle.engine.specs.declared.day.Day.{Day}
use Rattle.capping.specs.promises.Places.{cells_of_place, placed}
use Rattle.capping.specs.Days.{first_place, place_width, day_length, hour_cells, unit_cells, place_cells, day_cells}
use Rattle.capping.specs.declared.days.Place.{Place}

-- three cells a place
places-length : (n : ℕ) (rs : List RunningUnit) → length (place_cells n rs) ≡ n * place_width
unfolding place_cells
places-length zero rs = refl
places-length (suc n) [] = rw (suc-mul n place_width) (omega (arith, places-length n []))
places-length (suc n) (r ∷ rs) = rw (suc-mul n place_width) (omega (arith, places-length n rs))

place-further : (i : ℕ) → suc i * place_width ≡ suc (suc (suc (i * place_width)))
place-further i = rw (suc-mul i place_width) (omega arith)

-- a unit's place, and a place behind the last unit
place-held :
    (n : ℕ) (rs : List RunningUnit) (i : ℕ) → i < n → i < length rs →
    take place_width (drop (i * place_width) (place_cells n rs)) ≡ unit_cells (get_or rs i missing)
unfolding place_cells
place-held zero rs i h k = absurd (not-suc-le-zero h)
place-held (suc n) [] i h k = absurd (not-suc-le-zero k)
place-held (suc n) (r ∷ rs) zero h k = refl
place-held (suc n) (r ∷ rs) (suc i) h k =
    rw (place-further i) (place-held n rs i (le_of_suc-le-suc h) (le_of_suc-le-suc k))

place-empty :
    (n : ℕ) (rs : List RunningUnit) (i : ℕ) → i < n → length rs ≤ i →
    take place_width (drop (i * place_width) (place_cells n rs)) ≡ 0 ∷ 0 ∷ 0 ∷ []
unfolding place_cells
place-empty zero rs i h k = absurd (not-suc-le-zero h)
place-empty (suc n) [] zero h k = refl
place-empty (suc n) [] (suc i) h k =
    rw (place-further i) (place-empty n [] i (le_of_suc-le-suc h) (omega arith))
place-empty (suc n) (r ∷ rs) zero h k = absurd (not-suc-le-zero k)
place-empty (suc n) (r ∷ rs) (suc i) h k =
    rw (place-further i) (place-empty n rs i (le_of_suc-le-suc h) (le_of_suc-le-suc k))

-- what the i-th place of units holds, as it is read: the unit there, or zeros where none runs
place-holds :
    (us : Units) (i : ℕ) → i < most_running → i < length us.running → (t : Bool) → t ≡ ltb i us.count → {c : List ℕ} →
    c ≡ cond t (unit_cells (unit_of (get_or us.running i unused))) (0 ∷ 0 ∷ 0 ∷ []) →
    take place_width (drop (i * place_width) (place_cells most_running (units_of us))) ≡ c
unfolding units_of
place-holds us i h k true e is =
    let runs : i < us.count = ltb-true i us.count (sym e) in
    place-held most_running (first_units us.count us.running) i h (omega (arith, first-length us.count us.running))
    ∙ rw (first-at missing us.count us.running i runs k) (sym is)
place-holds us i h k false e is =
    let rests : us.count ≤ i = ltb-false i us.count (sym e) in
    place-empty most_running (first_units us.count us.running) i h (omega (arith, first-length us.count us.running)) ∙ sym is

-- of all places the first i are laid down
pub record Laying (rs : List RunningUnit) (old cells : List ℕ) (i : ℕ) : Type 0 where
  pub upto : i ≤ most_running
  pub long : length cells ≡ day_length
  pub laid : take (first_place + i * place_width) cells ≡ take first_place old ++ take (i * place_width) (place_cells most_running rs)

module _ (rs : List RunningUnit) (old cells : List ℕ) (i : ℕ) (l : Laying rs old cells i) where
  laying-next :
      (p : Place) → i < most_running → take place_width (drop (i * place_width) (place_cells most_running rs)) ≡ cells_of_place p →
      Laying rs old (placed p i cells) (i + 1)
  unfolding placed
  laying-next p h holds =
      let at = first_place + i * place_width in
      let room : at + 3 ≤ length cells = omega (arith, l.long) in
      let front : length (take at cells ++ cells_of_place p) ≡ at + 3 =
      length-append (take at cells) (cells_of_place p) ∙ ap (λ (k : ℕ). k + 3) (length-take-le at cells (omega (arith, room)))
      in
      let whole : first_place + (i + 1) * place_width ≡ at + 3 = omega arith in
      let part : (i + 1) * place_width ≡ i * place_width + place_width = omega arith in
      record {
        upto = omega arith;
        long = length-sets cells at (cells_of_place p) ∙ l.long;
        laid =
            rw (whole, sets-eq (cells_of_place p) cells at room, take_at (take at cells ++ cells_of_place p) (drop (at + 3) cells) (at + 3) front)
            (rw (l.laid, part, take-add (i * place_width) place_width (place_cells most_running rs), holds)
            (append_assoc (take first_place old) (take (i * place_width) (place_cells most_running rs)) (cells_of_place p)));
      }

  pub laying-over : most_running ≤ i → cells ≡ take first_place old ++ place_cells most_running rs
  laying-over h =
      let last : i ≡ most_running = omega (arith, l.upto) in
      let all : take (first_place + most_running * place_width) cells ≡ cells = take_all day_length cells (omega (arith, l.long)) in
      let every : take (most_running * place_width) (place_cells most_running rs) ≡ place_cells most_running rs =
      take_all (most_running * place_width) (place_cells most_running rs) (omega (arith, places-length most_running rs))
      in
      sym all ∙ (rw last at l.laid) ∙ ap (λ (s : List ℕ). take first_place old ++ s) every

-- one place more of units that are laid down, whether one runs there or not
pub laying-place :
    (us : Units) (old cells : List ℕ) (i count : ℕ) → Laying (units_of us) old cells i → count ≡ us.count → length us.running ≡ most_running →
    i < most_running → (p : Place) → cells_of_place p ≡ cond (ltb i count) (unit_cells (unit_of (get_or us.running i unused))) (0 ∷ 0 ∷ 0 ∷ []) →
    Laying (units_of us) old (placed p i cells) (i + 1)
laying-place us old cells i count l same long h p is =
    let there : i < length us.running = omega (arith, long, h) in
    laying-next (units_of us) old cells i l p h (place-holds us i h there (ltb i count) (rw same) is)

-- the first three cells, once they are stored
front-laid :
    (old : List ℕ) (a b c : ℕ) → length old ≡ day_length → take first_place (set (set (set old 0 a) 1 b) 2 c) ≡ a ∷ b ∷ c ∷ []
front-laid [] a b c e = absurd (omega arith)
front-laid (x ∷ []) a b c e = absurd (omega arith)
front-laid (x ∷ y ∷ []) a b c e = absurd (omega arith)
front-laid (x ∷ y ∷ z ∷ old) a b c e = refl

-- the cells of a day, by its hour, its count and its places
day-laid :
    (d : DayView) {a b c : ℕ} → a ≡ get_or (hour_cells d.hour) 0 0 → b ≡ get_or (hour_cells d.hour) 1 0 → c ≡ length d.running →
    (a ∷ b ∷ c ∷ []) ++ place_cells most_running d.running ≡ day_cells d
unfolding day_cells hour_cells
day-laid d e f g = rw (e, f, g) (front d.hour)
  where
    front :
        (o : Option ℕ) →
        (get_or (hour_cells o) 0 0 ∷ get_or (hour_cells o) 1 0 ∷ length d.running ∷ []) ++ place_cells most_running d.running
        ≡ hour_cells o ++ (length d.running ∷ place_cells most_running d.running)
    front None = refl
    front (Some h) = refl

-- three stores in a row
pub three-stored :
    (p : Place) (i : ℕ) (cells : List ℕ) {a b : ℕ} → a ≡ first_place + i * place_width + 1 → b ≡ first_place + i * place_width + 2 →
    set (set (set cells (first_place + i * place_width) p.unit) a p.kind) b p.schedule ≡ placed p i cells
unfolding placed
three-stored p i cells e f =
    let first : first_place + i * place_width + 1 ≡ suc (first_place + i * place_width) = omega arith in
    let second : first_place + i * place_width + 2 ≡ suc (suc (first_place + i * place_width)) = omega arith in
    rw (e ∙ first, f ∙ second)

-- a day that is laid down: its first cells, then its places
pub laid-down :
    (day : Day) (old new : List ℕ) {a b : ℕ} → length (set (set (set old 0 a) 1 b) 2 day.units.count) ≡ day_length →
    a ≡ get_or (hour_cells (day.hour)) 0 0 → b ≡ get_or (hour_cells (day.hour)) 1 0 →
    new ≡ take first_place (set (set (set old 0 a) 1 b) 2 day.units.count) ++ place_cells most_running (units_of day.units) →
    new ≡ day_cells (view_of day)
unfolding view_of
laid-down day old new {a} {b} e f g h =
    let long : length old ≡ day_length =
    sym (length-set (set (set old 0 a) 1 b) 2 day.units.count ∙ length-set (set old 0 a) 1 b ∙ length-set old 0 a) ∙ e
    in
    h ∙ rw (front-laid old _ _ day.units.count long) (day-laid (view_of day) f g (sym (counted day.units)))
