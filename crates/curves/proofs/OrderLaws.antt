-- Laws of points held to the order of their curves, one point a turn, over plain lists. Assumes nothing.
use Rattle.std.specs.Prelude.{None, Some}
use Prim.Native.Nat.{ℕ, zero, suc, ◌+◌, ◌-◌, ◌≤◌, ◌<◌}
use mathlib.Core.Path.{◌≡◌, refl, sym, ◌∙◌}
use mathlib.Core.Logic.{⊎_elim}
use mathlib.Core.Bool.{Bool, true, false, cond}
use mathlib.Core.List.{List, [], ◌∷◌}
use native.Mathlib.Omega.{arith}
use native.Mathlib.Numerals.{add-one}
use lib.Dec.{eqb}
use lib.ListN.{length, get_or, set, drop, length-set}
use lib.Seq.{get_or-set_same, get_or-set_other}
use borrow.Author.Tests.{eq-eqb, ne_eqb}
use Rattle.base.specs.Search.{those}
use Rattle.base.proofs.Lists.{drop-end}
use Rattle.base.proofs.SearchLaws.{some-none}
use Rattle.base.proofs.Tests.{eq-or-ne}
use Rattle.tables.specs.Rows.{PointRow}
use Rattle.tables.specs.promises.FlatRows.{point_rows}
use Rattle.cells.specs.promises.Views.{point_at}
use Rattle.cells.proofs.RowViews.{point-next, point-length}
use Rattle.links.specs.promises.Links.{last_same, most_linked, Unlinked}
use Rattle.links.proofs.LinkLaws.{last-here, last-later, last-upto}
use Rattle.curves.specs.Curves.{same_curve, breaks_order, disordered_from, disordered}
use Rattle.curves.specs.promises.Placing.{PointCells, CurvePlaces, place_key, LastsIn, breaks_behind, OrderFound}

-- the points before point k, the last first, and those of them at a place
unfoldable pub points_before : List ℕ → ℕ → List PointRow
points_before points zero = []
points_before points (suc k) = point_at points k ∷ points_before points k

module _ (points places : List ℕ) where
  unfoldable pub points_at : ℕ → ℕ → List PointRow
  points_at x zero = []
  points_at x (suc k) =
      let more = points_at x k in
      cond (eqb (place_key places k) x) (point_at points k ∷ more) more

  at_here : (x k : ℕ) → place_key places k ≡ x → points_at x (suc k) ≡ point_at points k ∷ points_at x k
  unfolding points_at
  at_here x k e = rw (eq-eqb (place_key places k) x e)

  at-later : (x k : ℕ) → (place_key places k ≡ x → ⊥) → points_at x (suc k) ≡ points_at x k
  unfolding points_at
  at-later x k e = rw (ne_eqb (place_key places k) x e)

  at-few : (x k : ℕ) → length (points_at x k) ≤ k
  unfolding points_at
  at-few x zero = omega arith
  at-few x (suc k) = go (eqb (place_key places k) x) (at-few x k)
    where
      go : (t : Bool) → length (points_at x k) ≤ k → length (cond t (point_at points k ∷ points_at x k) (points_at x k)) ≤ suc k
      go true h = omega arith
      go false h = omega arith

  -- the last of them is the last record at the place
  at_none : (x k : ℕ) → last_same (place_key places) x k ≡ 0 → points_at x k ≡ []
  unfolding points_at
  at_none x zero e = refl
  at_none x (suc k) e =
      ⊎_elim
      (λ (f : place_key places k ≡ x). absurd (omega (arith, sym (last-here (place_key places) x k f) ∙ e)))
      (λ (f : place_key places k ≡ x → ⊥). at-later x k f ∙ at_none x k (sym (last-later (place_key places) x k f) ∙ e))
      (eq-or-ne (place_key places k) x)

  at_some : (x k j : ℕ) → last_same (place_key places) x k ≡ suc j → points_at x k ≡ point_at points j ∷ points_at x j
  unfolding last_same
  at_some x zero j e = absurd (omega arith)
  at_some x (suc k) j e =
      ⊎_elim
      (λ (f : place_key places k ≡ x).
      let same : j ≡ k = omega (arith, sym (last-here (place_key places) x k f) ∙ e) in
      rw same (at_here x k f))
      (λ (f : place_key places k ≡ x → ⊥). at-later x k f ∙ at_some x k j (sym (last-later (place_key places) x k f) ∙ e))
      (eq-or-ne (place_key places k) x)

  module _ (m : ℕ) (c : CurvePlaces m points places) (i : ℕ) (in-file : i < m) where
    -- those of a curve are those at its place
    curve-at : (k : ℕ) → k ≤ i → those (same_curve (point_at points i)) (points_before points k) ≡ points_at (place_key places i) k
    unfolding those points_before points_at
    curve-at zero h = refl
    curve-at (suc k) h = rw (c.alike i k in-file (omega arith), curve-at k (omega arith))

    pub broken :
        (last count : ℕ) → last ≡ last_same (place_key places) (place_key places i) i → count ≡ length (points_at (place_key places i) i) →
        breaks_order (point_at points i) (those (same_curve (point_at points i)) (points_before points i)) ≡ breaks_behind points i last count
    unfolding breaks_order breaks_behind
    broken zero count is counted = rw (curve-at i (omega arith), at_none (place_key places i) i (sym is))
    broken (suc j) count is counted =
        let some-points = at_some (place_key places i) i j (sym is) in
        let one_less : suc j - 1 ≡ j = omega arith in
        rw (curve-at i (omega arith), counted, some-points, ne_eqb (suc j) 0 (omega arith), one_less)

-- of m points the first i are in order, and what is kept of each curve stands at its place
pub record Ordering (m : ℕ) (points places lasts counts : List ℕ) (i : ℕ) : Type 0 where
  pub points-in : PointCells m points
  pub curves : CurvePlaces m points places
  pub lasts-in : LastsIn places lasts i
  pub counts-room : most_linked < length counts
  pub counted : (x : ℕ) → x ≤ most_linked → get_or counts x 0 ≡ length (points_at points places x i)
  pub rest :
      disordered (point_rows m points) ≡ disordered_from (points_before points i) (suc i) (drop i (point_rows m points))

module _ (m : ℕ) (points places lasts counts : List ℕ) where
  pub ordering-none :
      PointCells m points → CurvePlaces m points places → most_linked < length lasts → Unlinked lasts →
      most_linked < length counts → Unlinked counts → Ordering m points places lasts counts 0
  unfolding disordered points_before points_at last_same
  ordering-none p c room none_last counts-room none-counted =
      record {
        points-in = p;
        curves = c;
        lasts-in = record { room = room; held = λ x h. none_last x };
        counts-room = counts-room;
        counted = λ x h. none-counted x;
        rest = refl;
      }

  module _
      (i : ℕ) (l : Ordering m points places lasts counts i) (h : i < m)
      (place : ℕ) (at_place : place ≡ get_or places i 0)
    where
      place_inside : place ≤ most_linked
      place_inside = omega (arith, l.curves.upto i h)

      pub last-inside : (last : ℕ) → last ≡ get_or lasts place 0 → last ≤ i
      last-inside last is = omega (arith, l.lasts-in.held place place_inside, last-upto (place_key places) place i)

      pub count-inside : (count : ℕ) → count ≡ get_or counts place 0 → count ≤ i
      count-inside count is = omega (arith, l.counted place place_inside, at-few points places place i)

      module _
          (last count : ℕ) (t : Bool) (is_last : last ≡ get_or lasts place 0) (is-count : count ≡ get_or counts place 0)
          (said : t ≡ breaks_behind points i last count)
        where
          test : t ≡ breaks_order (point_at points i) (those (same_curve (point_at points i)) (points_before points i))
          test =
              said
              ∙ sym
              (broken points places m l.curves i h last count
              (is_last ∙ l.lasts-in.held place place_inside ∙ rw at_place)
              (is-count ∙ l.counted place place_inside ∙ rw at_place))

          found : t ≡ true → disordered (point_rows m points) ≡ Some (suc i)
          unfolding disordered_from
          found e = l.rest ∙ rw (point-next m points i h, ← test, e)

          pub ordering-here : t ≡ true → OrderFound m points places lasts (Some (i + 1))
          ordering-here e =
              record {
                fault = rw (found e, add-one i);
                all-lasts = λ f. some-none (sym (found e) ∙ f);
              }

          passed :
              t ≡ false →
              disordered (point_rows m points)
              ≡ disordered_from (points_before points (i + 1)) (suc (i + 1)) (drop (i + 1) (point_rows m points))
          unfolding disordered_from points_before
          passed e = l.rest ∙ rw (point-next m points i h, ← test, e, add-one i)

          pub ordering-next :
              (next_last next-count : ℕ) → t ≡ false → next_last ≡ i + 1 → next-count ≡ count + 1 →
              Ordering m points places (set lasts place next_last) (set counts place next-count) (i + 1)
          ordering-next next_last next-count e is is-next =
              record {
                points-in = l.points-in;
                curves = l.curves;
                lasts-in = record { room = rw (length-set lasts place next_last) l.lasts-in.room; held = held };
                counts-room = rw (length-set counts place next-count) l.counts-room;
                counted = counted;
                rest = passed e;
              }
            where
              held : (x : ℕ) → x ≤ most_linked → get_or (set lasts place next_last) x 0 ≡ last_same (place_key places) x (i + 1)
              held x g =
                  ⊎_elim
                  (λ (f : x ≡ place).
                  rw (f, get_or-set_same lasts place next_last 0 (omega (arith, l.lasts-in.room, place_inside)), add-one i)
                  (is ∙ rw (add-one i) (sym (last-here (place_key places) place i (sym at_place)))))
                  (λ (f : x ≡ place → ⊥).
                  rw (get_or-set_other lasts place x next_last 0 f, add-one i)
                  (l.lasts-in.held x g ∙ sym (last-later (place_key places) x i (λ (k : place_key places i ≡ x). f (sym k ∙ sym at_place)))))
                  (eq-or-ne x place)

              counted : (x : ℕ) → x ≤ most_linked → get_or (set counts place next-count) x 0 ≡ length (points_at points places x (i + 1))
              counted x g =
                  ⊎_elim
                  (λ (f : x ≡ place).
                  rw (f, get_or-set_same counts place next-count 0 (omega (arith, l.counts-room, place_inside)), add-one i, at_here points places place i (sym at_place))
                  (omega (arith, l.counted place place_inside)))
                  (λ (f : x ≡ place → ⊥).
                  rw (get_or-set_other counts place x next-count 0 f, add-one i, at-later points places x i (λ (k : place_key places i ≡ x). f (sym k ∙ sym at_place)))
                  (l.counted x g))
                  (eq-or-ne x place)

  pub ordering-over : (i : ℕ) → Ordering m points places lasts counts i → i ≡ m → OrderFound m points places lasts None
  unfolding disordered_from
  ordering-over i l whole =
      record {
        fault = rw (l.rest, drop-end i (point_rows m points) (rw (point-length m points) (omega arith)));
        all-lasts = λ _. rw (← whole) l.lasts-in;
      }
