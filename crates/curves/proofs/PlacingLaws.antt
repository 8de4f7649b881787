-- Laws of points whose rows are found, one point a turn, over plain lists. Assumes nothing.
use Rattle.std.specs.Prelude.{None, Some, Option, IfSome}
use Prim.Native.Nat.{ℕ, suc, ◌+◌, ◌-◌, ◌≤◌, ◌<◌}
use mathlib.Core.Path.{◌≡◌, refl, sym, ◌∙◌, ap}
use mathlib.Core.Logic.{⊎_elim}
use mathlib.Core.Bool.{Bool, true, not}
use mathlib.Core.List.{List}
use native.Mathlib.Omega.{arith}
use native.Mathlib.Numerals.{add-one}
use lib.Dec.{eqb}
use lib.ListN.{length, get_or, set, drop}
use lib.Seq.{get_or-set_same, get_or-set_other}
use Rattle.base.specs.Search.{first, any}
use Rattle.base.proofs.Lists.{drop-end}
use Rattle.base.proofs.SearchLaws.{same_test, some-none}
use Rattle.base.proofs.Searches.{first-none, first-here, first-later}
use Rattle.base.proofs.Tests.{eq-or-ne}
use borrow.Author.Tests.{eq-eqb, eqb-true}
use Rattle.tables.specs.Rows.{ScheduleRow, PointRow}
use Rattle.tables.specs.promises.FlatRows.{schedule_rows, point_rows}
use Rattle.cells.specs.promises.Views.{schedule_at, point_at}
use Rattle.cells.proofs.RowViews.{point-next, point-length}
use Rattle.links.specs.promises.Links.{most_linked, Linked, Along}
use Rattle.links.proofs.LinkLaws.{any_place, along-key, along-over}
use Rattle.schedules.proofs.SearchLaws.{rows-any}
use Rattle.curves.specs.Curves.{ScheduleHour, point_of, stray_point}
use Rattle.curves.specs.promises.Keys.{own_keys, own_key, row_key}
use Rattle.curves.specs.promises.Placing.{RowCells, RowFound, Placed, PointsPlaced, CurvePlaces}
use Rattle.curves.proofs.PointLaws.{of_row, row-once, one-curve}

-- one point's row, searched along the links of its schedule, whose key is x
module _ (points : List ℕ) (i n : ℕ) (cells : List ℕ) where
  abbrev pub at : ℕ → Bool
  at j = point_of (schedule_at cells j) (point_at points i)

  pub along-point :
      (numbers links : List ℕ) (x u s : ℕ) → Linked (row_key numbers cells) own_keys n links → u ≡ (point_at points i).unit →
      s ≡ (point_at points i).schedule → x ≡ own_key numbers u s → x < own_keys → Along at n links (get_or links (most_linked + x) 0)
  along-point numbers links x u s l is-unit is-schedule is one = along-key at x l one alike
    where
      alike : (j : ℕ) → at j ≡ true → row_key numbers cells j ≡ x
      alike j e =
          let same = of_row (schedule_at cells j) (point_at points i) e in
          rw (is, is-unit, is-schedule, ap (λ (h : ScheduleHour). h.unit) same, ap (λ (h : ScheduleHour). h.schedule) same)

  pub found_none : {links : List ℕ} {left : ℕ} → Along at n links left → left ≤ 0 → RowFound points i n cells None
  found_none {links} {left} l h = rows-any cells (λ (row : ScheduleRow). point_of row (point_at points i)) n ∙ sym (along-over at n links left l h)

-- of m points the first i have their rows in a run; a row to try next is the last one found
pub record Placing (m : ℕ) (points : List ℕ) (n : ℕ) (cells places : List ℕ) (tried : Option ℕ) (i : ℕ) : Type 0 where
  pub tried-in : IfSome tried (λ (k : ℕ). k < n)
  pub placed : (j : ℕ) → j < i → (0 < get_or places j 0) × (get_or places j 0 ≤ n) × (point_of (schedule_at cells (get_or places j 0 - 1)) (point_at points j) ≡ true)
  pub rest :
      stray_point (schedule_rows n cells) (point_rows m points)
      ≡ first (λ (v : PointRow). not (any (λ (r : ScheduleRow). point_of r v) (schedule_rows n cells))) (suc i) (drop i (point_rows m points))

module _ (m : ℕ) (points : List ℕ) (n : ℕ) (cells places : List ℕ) where
  abbrev stray : PointRow → Bool
  stray v = not (any (λ (r : ScheduleRow). point_of r v) (schedule_rows n cells))

  pub placing-none : Placing m points n cells places None 0
  unfolding stray_point
  placing-none =
      record {
        tried-in = tt;
        placed = λ j h. absurd (omega arith);
        rest = refl;
      }

  module _ (last : Option ℕ) (i : ℕ) (l : Placing m points n cells places last i) (h : i < m) where
    pub placing-here : RowFound points i n cells None → PointsPlaced m points n cells places (Some (i + 1))
    placing-here none-found =
        let is-stray : stray_point (schedule_rows n cells) (point_rows m points) ≡ Some (suc i) =
        l.rest ∙ rw (point-next m points i h) (first-here stray (suc i) (point_at points i) _ (ap not none-found)) in
        record {
          stray = rw (is-stray, add-one i);
          all_placed = λ e. some-none (sym is-stray ∙ e);
        }

    pub placing-next :
        (place : ℕ) → RowFound points i n cells (Some place) → (stored : ℕ) → i < length places → stored ≡ place + 1 →
        Placing m points n cells (set places i stored) (Some place) (i + 1)
    placing-next place found stored room is =
        record {
          tried-in = found.0;
          placed = λ j f. ⊎_elim (here j) (other j f) (eq-or-ne j i);
          rest =
              l.rest
              ∙ rw (point-next m points i h, add-one i) (first-later stray (suc i) (point_at points i) _ (ap not has-row));
        }
      where
        has-row : any (λ (r : ScheduleRow). point_of r (point_at points i)) (schedule_rows n cells) ≡ true
        has-row =
            rows-any cells (λ (r : ScheduleRow). point_of r (point_at points i)) n
            ∙ any_place (at points i n cells) n place found.0 found.1

        Goal : ℕ → Type 0
        Goal j =
            (0 < get_or (set places i stored) j 0)
            × (get_or (set places i stored) j 0 ≤ n)
            × (point_of (schedule_at cells (get_or (set places i stored) j 0 - 1)) (point_at points j) ≡ true)

        here : (j : ℕ) → j ≡ i → Goal j
        here j f =
            let back : place + 1 - 1 ≡ place = omega arith in
            rw (f, get_or-set_same places i stored 0 room, is, back) (omega arith, omega (arith, found.0), found.1)

        other : (j : ℕ) → j < i + 1 → (j ≡ i → ⊥) → Goal j
        other j g f = rw (get_or-set_other places i j stored 0 f) (l.placed j (omega arith))

  pub placing-over :
      (last : Option ℕ) (i : ℕ) → Placing m points n cells places last i → m ≤ i → m ≤ length places →
      PointsPlaced m points n cells places None
  placing-over last i l h room =
      record {
        stray = rw (l.rest, drop-end i (point_rows m points) (rw (point-length m points) h), first-none stray (suc i));
        all_placed =
            λ _.
            record {
              room = room;
              some-row = λ j f. (l.placed j (omega arith)).0;
              upto = λ j f. (l.placed j (omega arith)).1;
              its-row = λ j f. (l.placed j (omega arith)).2;
            };
      }

-- points that have their rows have one place for each curve
module _ {m : ℕ} {points : List ℕ} {n : ℕ} {cells places : List ℕ} (c : RowCells n cells) (p : Placed m points n cells places) where
  abbrev place : ℕ → ℕ
  place i = get_or places i 0

  row_in : (i : ℕ) → i < m → place i - 1 < n
  row_in i h = omega (arith, p.upto i h, p.some-row i h)

  same_place : (i j : ℕ) → i < m → j < m → point_of (schedule_at cells (place i - 1)) (point_at points j) ≡ true → place j ≡ place i
  same_place i j h k of-it =
      let one : place j - 1 ≡ place i - 1 = row-once c (point_at points j) (place j - 1) (place i - 1) (row_in j k) (row_in i h) (p.its-row j k) of-it in
      omega (arith, p.some-row j k, p.some-row i h)

  row-alike : (i j : ℕ) → i < m → j < m → point_of (schedule_at cells (place i - 1)) (point_at points j) ≡ eqb (place j) (place i)
  row-alike i j h k =
      same_test (point_of (schedule_at cells (place i - 1)) (point_at points j)) (eqb (place j) (place i))
      (λ of-it. eq-eqb (place j) (place i) (same_place i j h k of-it))
      (λ e. rw (← eqb-true (place j) (place i) e) (p.its-row j k))

  pub placed-curves : CurvePlaces m points places
  placed-curves =
      record {
        room = p.room;
        upto = λ i h. omega (arith, p.upto i h, c.few);
        alike =
            λ i j h k.
            one-curve (schedule_at cells (place i - 1)) (point_at points i) (point_at points j) (p.its-row i h) ∙ row-alike i j h k;
      }
