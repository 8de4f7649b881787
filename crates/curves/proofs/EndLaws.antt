-- Laws of curves that end below ecomin, one point a turn, over plain lists. Assumes nothing.
use Rattle.std.specs.Prelude.{None, Some}
use Prim.Native.Nat.{ℕ, zero, suc, ◌+◌, ◌-◌, ◌≤◌, ◌<◌}
use mathlib.Core.Path.{◌≡◌, refl, sym, ◌∙◌}
use mathlib.Core.Logic.{⊎_elim}
use mathlib.Core.Bool.{Bool, true, false, not, ◌&&◌}
use mathlib.Core.List.{List}
use native.Mathlib.Omega.{arith}
use native.Mathlib.Numerals.{add-one}
use lib.Dec.{eqb, ltb}
use lib.ListN.{get_or, drop}
use borrow.Author.Tests.{eq-eqb, ne_eqb, lt-ltb, le-ltb}
use Rattle.base.specs.Search.{any}
use Rattle.base.proofs.Lists.{drop-end}
use Rattle.base.proofs.SearchLaws.{same_test}
use Rattle.base.proofs.Tests.{eq-or-ne, lt-or-ge, and-fst, and-snd}
use Rattle.tables.specs.Rows.{ScheduleRow, PointRow}
use Rattle.tables.specs.promises.FlatRows.{schedule_rows, point_rows}
use Rattle.cells.specs.promises.Views.{schedule_at, point_at}
use Rattle.cells.proofs.RowViews.{point-next, point-length}
use Rattle.links.specs.promises.Links.{last_same, any_before}
use Rattle.links.proofs.LinkLaws.{any_place, some-place, last-upto, last_has, last-reaches}
use Rattle.schedules.proofs.SearchLaws.{rows-any}
use Rattle.curves.specs.Curves.{point_of, same_curve, below_ecomin, ends_low_from, ends_low}
use Rattle.curves.specs.promises.Placing.{PointCells, RowCells, Placed, CurvePlaces, place_key, LastsIn}
use Rattle.curves.proofs.PointLaws.{row-once}
use Rattle.curves.proofs.PlacingLaws.{placed-curves}

-- the end of a curve by the tests of the code
module _ (last i : ℕ) where
  pub low-not : (t : Bool) → (last ≡ i + 1 → ⊥) → false ≡ (eqb last (i + 1) && t)
  low-not t e = simp (ne_eqb last (i + 1) e)

  pub low_end : (x y mw ecomin : ℕ) → last ≡ i + 1 → x ≡ mw → y ≡ ecomin → ltb x y ≡ (eqb last (i + 1) && ltb mw ecomin)
  low_end x y mw ecomin e is is-ecomin = rw (is, is-ecomin) (sym (simp (eq-eqb last (i + 1) e)))

-- a point lies below the ecomin of its one row
module _ {n : ℕ} {cells : List ℕ} (c : RowCells n cells) (v : PointRow) (k : ℕ) (row_in : k < n) (of_row : point_of (schedule_at cells k) v ≡ true) where
  abbrev low : ℕ → Bool
  low j = point_of (schedule_at cells j) v && ltb v.mw (schedule_at cells j).ecomin

  low-row : any_before low n ≡ true → ltb v.mw (schedule_at cells k).ecomin ≡ true
  low-row e =
      let (j, h, both) = some-place low n e in
      let one : j ≡ k = row-once c v j k h row_in (and-fst (point_of (schedule_at cells j) v) _ both) of_row in
      rw one at (and-snd (point_of (schedule_at cells j) v) _ both)

  below_row : below_ecomin (schedule_rows n cells) v ≡ ltb v.mw (schedule_at cells k).ecomin
  unfolding below_ecomin
  below_row =
      rows-any cells (λ (r : ScheduleRow). point_of r v && ltb v.mw r.ecomin) n
      ∙ same_test (any_before low n) (ltb v.mw (schedule_at cells k).ecomin) low-row (λ e. any_place low n k row_in (rw (of_row, e)))

module _ (m : ℕ) (points places : List ℕ) (c : CurvePlaces m points places) (i : ℕ) (in-file : i < m) where
  abbrev last : ℕ
  last = last_same (place_key places) (place_key places i) m

  -- a curve has points from j on where its last record is behind j
  curve-from : (left j : ℕ) → left + j ≡ m → any (same_curve (point_at points i)) (drop j (point_rows m points)) ≡ ltb j last
  unfolding any
  curve-from zero j e =
      rw (
        drop-end j (point_rows m points) (rw (point-length m points) (omega arith)),
        le-ltb j last (omega (arith, last-upto (place_key places) (place_key places i) m)),
      )
  curve-from (suc left) j e =
      rw (point-next m points j (omega arith), c.alike i j in-file (omega arith), curve-from left (j + 1) (omega arith))
      (⊎_elim
      (λ (f : place_key places j ≡ place_key places i).
      rw (
        eq-eqb (place_key places j) (place_key places i) f,
        lt-ltb j last (last-reaches (place_key places) (place_key places i) m j (omega arith) f),
      ))
      (λ (f : place_key places j ≡ place_key places i → ⊥). rw (ne_eqb (place_key places j) (place_key places i) f) (later f))
      (eq-or-ne (place_key places j) (place_key places i)))
    where
      later : (place_key places j ≡ place_key places i → ⊥) → ltb (j + 1) last ≡ ltb j last
      later f =
          ⊎_elim
          (λ (h : j + 1 < last). rw (lt-ltb (j + 1) last h, lt-ltb j last (omega arith)))
          (λ (h : last ≤ j + 1).
          let upto : last ≤ j = ⊎_elim (λ (g : last ≡ suc j). absurd (f (last_has (place_key places) (place_key places i) m j g))) (λ (g : last ≡ suc j → ⊥). omega arith) (eq-or-ne last (suc j)) in
          rw (le-ltb (j + 1) last h, le-ltb j last upto))
          (lt-or-ge (j + 1) last)

  pub curve-ends : not (any (same_curve (point_at points i)) (drop (i + 1) (point_rows m points))) ≡ eqb last (i + 1)
  curve-ends =
      rw (curve-from (m - (i + 1)) (i + 1) (omega arith))
      (⊎_elim
      (λ (h : i + 1 < last). rw (lt-ltb (i + 1) last h, ne_eqb last (i + 1) (omega arith)))
      (λ (h : last ≤ i + 1).
      let one : last ≡ i + 1 = omega (arith, last-reaches (place_key places) (place_key places i) m i in-file refl) in
      rw (le-ltb (i + 1) last h, eq-eqb last (i + 1) one))
      (lt-or-ge (i + 1) last))

-- of m points the first i end no curve too low
pub record Ending (m : ℕ) (points places lasts : List ℕ) (n : ℕ) (cells : List ℕ) (i : ℕ) : Type 0 where
  pub points-in : PointCells m points
  pub rows_in : RowCells n cells
  pub placed : Placed m points n cells places
  pub lasts-in : LastsIn places lasts m
  pub rest :
      ends_low (schedule_rows n cells) (point_rows m points) ≡ ends_low_from (schedule_rows n cells) (suc i) (drop i (point_rows m points))

module _ (m : ℕ) (points places lasts : List ℕ) (n : ℕ) (cells : List ℕ) where
  pub ending-none :
      PointCells m points → RowCells n cells → Placed m points n cells places → LastsIn places lasts m →
      Ending m points places lasts n cells 0
  unfolding ends_low
  ending-none p r s l =
      record {
        points-in = p;
        rows_in = r;
        placed = s;
        lasts-in = l;
        rest = refl;
      }

  module _
      (i : ℕ) (l : Ending m points places lasts n cells i) (h : i < m) (place last : ℕ) (t : Bool) (at_place : place ≡ get_or places i 0)
      (is_last : last ≡ get_or lasts place 0)
      (said : t ≡ (eqb last (i + 1) && ltb (point_at points i).mw (schedule_at cells (place - 1)).ecomin))
    where
      test :
          t
          ≡ (not (any (same_curve (point_at points i)) (drop (i + 1) (point_rows m points)))
          && below_ecomin (schedule_rows n cells) (point_at points i))
      test =
          let p = l.placed in
          let the_last : last ≡ last_same (place_key places) (place_key places i) m =
          is_last ∙ l.lasts-in.held place (omega (arith, p.upto i h, l.rows_in.few)) ∙ rw at_place in
          said
          ∙ rw (
            curve-ends m points places (placed-curves l.rows_in p) i h,
            below_row l.rows_in (point_at points i) (get_or places i 0 - 1) (omega (arith, p.upto i h, p.some-row i h)) (p.its-row i h),
            the_last,
            at_place,
          )

      pub ending_here : t ≡ true → Some (i + 1) ≡ ends_low (schedule_rows n cells) (point_rows m points)
      unfolding ends_low_from
      ending_here e = rw (l.rest, point-next m points i h, ← test, e, add-one i)

      pub ending-next : t ≡ false → Ending m points places lasts n cells (i + 1)
      unfolding ends_low_from
      ending-next e =
          record {
            points-in = l.points-in;
            rows_in = l.rows_in;
            placed = l.placed;
            lasts-in = l.lasts-in;
            rest = l.rest ∙ rw (point-next m points i h, ← test, e, add-one i);
          }

  pub ending-over :
      (i : ℕ) → Ending m points places lasts n cells i → m ≤ i →
      None ≡ ends_low (schedule_rows n cells) (point_rows m points)
  unfolding ends_low_from
  ending-over i l h = rw (l.rest, drop-end i (point_rows m points) (rw (point-length m points) h))
