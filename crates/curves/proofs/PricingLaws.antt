-- Laws of rows that are priced in place, one point a turn, from the last to the first, over plain lists. Assumes nothing.
use Prim.Native.Nat.{ℕ, ◌+◌, ◌-◌, ◌*◌, ◌≤◌, ◌<◌}
use mathlib.Core.Path.{◌≡◌, refl, sym, ◌∙◌, ap}
use mathlib.Core.Logic.{⊎_elim}
use mathlib.Core.Bool.{true, false}
use mathlib.Core.List.{List, ◌∷◌}
use native.Mathlib.Omega.{arith}
use lib.Dec.{leb}
use lib.ListN.{length, get_or, drop, set, length-set}
use lib.Seq.{get_or-set_same, get_or-set_other}
use borrow.Author.Tests.{le-leb, lt-leb}
use Rattle.base.specs.Search.{find, those}
use Rattle.base.proofs.Finds.{find-here, find-later, those-here, those-later}
use Rattle.base.proofs.Lists.{drop-end}
use Rattle.base.proofs.Tests.{eq-or-ne, lt-or-ge, either}
use Rattle.tables.specs.Rows.{ScheduleRow, PointRow}
use Rattle.tables.specs.promises.FlatRows.{point_rows}
use Rattle.cells.specs.promises.Views.{schedule_at, point_at}
use Rattle.cells.proofs.RowStores.{cell-kept}
use Rattle.cells.proofs.RowViews.{point-next, point-length}
use Rattle.curves.specs.Curves.{point_of, price_at, with_price, priced_row}
use Rattle.curves.specs.promises.Placing.{PointCells, RowCells, Placed}
use Rattle.curves.specs.promises.Pricing.{price_stored}
use Rattle.curves.proofs.PointLaws.{row-once}

-- one point more in front of a curve
module _ (r : ScheduleRow) (v : PointRow) (vs : List PointRow) where
  pub priced-other : point_of r v ≡ false → priced_row (v ∷ vs) r ≡ priced_row vs r
  unfolding priced_row
  priced-other e = rw (those-later (point_of r) v vs e)

  pub priced-short : point_of r v ≡ true → v.mw < r.ecomin → priced_row (v ∷ vs) r ≡ priced_row vs r
  unfolding priced_row price_at
  priced-short e h =
      rw (
        those-here (point_of r) v vs e,
        find-later (λ (w : PointRow). leb r.ecomin w.mw) v (those (point_of r) vs) (lt-leb r.ecomin v.mw h),
      )

  pub priced-reached : point_of r v ≡ true → r.ecomin ≤ v.mw → priced_row (v ∷ vs) r ≡ with_price r v.price
  unfolding priced_row price_at
  priced-reached e h =
      rw (
        those-here (point_of r) v vs e,
        find-here (λ (w : PointRow). leb r.ecomin w.mw) v (those (point_of r) vs) (le-leb r.ecomin v.mw h),
      )

-- a price stored in row k, or not
module _ (points : List ℕ) (i k : ℕ) (cells : List ℕ) where
  pub stored-reached :
      (at v : ℕ) → (schedule_at cells k).ecomin ≤ (point_at points i).mw → at ≡ k * 9 + 5 → v ≡ (point_at points i).price →
      set cells at v ≡ price_stored points i k cells
  unfolding price_stored
  stored-reached at v h is priced = rw (is, priced, le-leb (schedule_at cells k).ecomin (point_at points i).mw h)

  pub stored_short : (point_at points i).mw < (schedule_at cells k).ecomin → cells ≡ price_stored points i k cells
  unfolding price_stored
  stored_short h = rw (lt-leb (schedule_at cells k).ecomin (point_at points i).mw h)

module _ (cells : List ℕ) (k v : ℕ) where
  abbrev stored : List ℕ
  stored = set cells (k * 9 + 5) v

  store-here : k * 9 + 5 < length cells → schedule_at stored k ≡ with_price (schedule_at cells k) v
  unfolding with_price
  store-here h =
      rw (
        get_or-set_other cells (k * 9 + 5) (k * 9 + 0) v 0 (omega arith),
        get_or-set_other cells (k * 9 + 5) (k * 9 + 1) v 0 (omega arith),
        get_or-set_other cells (k * 9 + 5) (k * 9 + 2) v 0 (omega arith),
        get_or-set_other cells (k * 9 + 5) (k * 9 + 3) v 0 (omega arith),
        get_or-set_other cells (k * 9 + 5) (k * 9 + 4) v 0 (omega arith),
        get_or-set_same cells (k * 9 + 5) v 0 h,
        get_or-set_other cells (k * 9 + 5) (k * 9 + 6) v 0 (omega arith),
        get_or-set_other cells (k * 9 + 5) (k * 9 + 7) v 0 (omega arith),
        get_or-set_other cells (k * 9 + 5) (k * 9 + 8) v 0 (omega arith),
      )

  store_other : (j : ℕ) → (j ≡ k → ⊥) → schedule_at stored j ≡ schedule_at cells j
  store_other j e =
      rw (
        cell-kept 9 cells k 5 v (omega arith) j 0 (omega arith) e,
        cell-kept 9 cells k 5 v (omega arith) j 1 (omega arith) e,
        cell-kept 9 cells k 5 v (omega arith) j 2 (omega arith) e,
        cell-kept 9 cells k 5 v (omega arith) j 3 (omega arith) e,
        cell-kept 9 cells k 5 v (omega arith) j 4 (omega arith) e,
        cell-kept 9 cells k 5 v (omega arith) j 5 (omega arith) e,
        cell-kept 9 cells k 5 v (omega arith) j 6 (omega arith) e,
        cell-kept 9 cells k 5 v (omega arith) j 7 (omega arith) e,
        cell-kept 9 cells k 5 v (omega arith) j 8 (omega arith) e,
      )

-- the points from `left` on have come to their rows
pub record Pricing (m : ℕ) (points places : List ℕ) (n : ℕ) (old new : List ℕ) (left : ℕ) : Type 0 where
  pub upto : left ≤ m
  pub points-in : PointCells m points
  pub rows_in : RowCells n old
  pub placed : Placed m points n old places
  pub same_length : length new ≡ length old
  pub each : (j : ℕ) → j < n → schedule_at new j ≡ priced_row (drop left (point_rows m points)) (schedule_at old j)

module _ (m : ℕ) (points places : List ℕ) (n : ℕ) (old : List ℕ) where
  pub pricing-none : PointCells m points → RowCells n old → Placed m points n old places → Pricing m points places n old old m
  unfolding priced_row price_at with_price those find
  pricing-none p r s =
      record {
        upto = omega arith;
        points-in = p;
        rows_in = r;
        placed = s;
        same_length = refl;
        each = λ j h. rw (drop-end m (point_rows m points) (rw (point-length m points) (omega arith)));
      }

  module _ (new : List ℕ) (left : ℕ) (l : Pricing m points places n old new left) (h : 0 < left) where
    abbrev i : ℕ
    i = left - 1

    in-file : i < m
    in-file = omega (arith, l.upto)

    pub pricing-some : 0 < get_or places i 0
    pricing-some = l.placed.some-row i in-file

    pub pricing-row : (k : ℕ) → k ≡ get_or places i 0 - 1 → k < n
    pricing-row k e = omega (arith, pricing-some, l.placed.upto i in-file)

    module _ (k : ℕ) (e : k ≡ get_or places i 0 - 1) where
      abbrev v : PointRow
      v = point_at points i

      abbrev vs : List PointRow
      vs = drop left (point_rows m points)

      more : drop i (point_rows m points) ≡ v ∷ vs
      more =
          let next : i + 1 ≡ left = omega arith in
          point-next m points i in-file ∙ rw next

      its-row : point_of (schedule_at old k) v ≡ true
      its-row = rw e (l.placed.its-row i in-file)

      reaches : (schedule_at new k).ecomin ≡ (schedule_at old k).ecomin
      unfolding priced_row with_price
      reaches = ap (λ (r : ScheduleRow). r.ecomin) (l.each k (pricing-row k e))

      again : (schedule_at old k).ecomin ≤ v.mw → with_price (priced_row vs (schedule_at old k)) v.price ≡ priced_row (v ∷ vs) (schedule_at old k)
      unfolding with_price priced_row
      again g = sym (priced-reached (schedule_at old k) v vs its-row g)

      pub pricing-next : (next : List ℕ) → next ≡ price_stored points i k new → Pricing m points places n old next i
      pricing-next next stores = ⊎_elim reached short (lt-or-ge v.mw (schedule_at new k).ecomin)
        where
          row_in : k < n
          row_in = pricing-row k e

          other_row : (j : ℕ) → j < n → (j ≡ k → ⊥) → priced_row (v ∷ vs) (schedule_at old j) ≡ priced_row vs (schedule_at old j)
          other_row j g f =
              priced-other (schedule_at old j) v vs
              (⊎_elim
              (λ (t : point_of (schedule_at old j) v ≡ true). absurd (f (row-once l.rows_in v j k g row_in t its-row)))
              (λ (t : point_of (schedule_at old j) v ≡ false). t)
              (either (point_of (schedule_at old j) v)))

          with_rows :
              length next ≡ length new →
              ((j : ℕ) → j < n → schedule_at next j ≡ priced_row (v ∷ vs) (schedule_at old j)) → Pricing m points places n old next i
          with_rows long rows =
              record {
                upto = omega arith;
                points-in = l.points-in;
                rows_in = l.rows_in;
                placed = l.placed;
                same_length = long ∙ l.same_length;
                each = λ j g. rows j g ∙ rw more;
              }

          reached : v.mw < (schedule_at new k).ecomin → Pricing m points places n old next i
          reached g =
              let kept : next ≡ new = stores ∙ sym (stored_short points i k new g) in
              with_rows (rw kept)
              (λ j f.
              rw kept
              (l.each j f
              ∙ sym
              (⊎_elim
              (λ (same : j ≡ k). rw same (priced-short (schedule_at old k) v vs its-row (omega (arith, reaches))))
              (λ (other : j ≡ k → ⊥). other_row j f other)
              (eq-or-ne j k))))

          short : (schedule_at new k).ecomin ≤ v.mw → Pricing m points places n old next i
          short g =
              let set-price : next ≡ set new (k * 9 + 5) v.price =
              stores ∙ sym (stored-reached points i k new (k * 9 + 5) v.price g refl refl) in
              with_rows (rw set-price (length-set new (k * 9 + 5) v.price))
              (λ j f.
              rw set-price
              (⊎_elim
              (λ (same : j ≡ k).
              rw same
              (store-here new k v.price (omega (arith, l.rows_in.inside, l.same_length, row_in))
              ∙ ap (λ (r : ScheduleRow). with_price r v.price) (l.each k row_in)
              ∙ again (omega (arith, reaches))))
              (λ (other : j ≡ k → ⊥). store_other new k v.price j other ∙ l.each j f ∙ sym (other_row j f other))
              (eq-or-ne j k)))
