-- Demand 3 on the verdict and the amount left, for any party of some supply rows: what the test decides is right, and
-- nothing else is. A cutoff and a need at least 1, as the table has them. Assumes nothing.
use Prim.Native.Nat.{ℕ, ◌≤◌, ◌<◌}
use mathlib.Core.Path.{◌≡◌, refl, ◌∙◌}
use mathlib.Core.Logic.{◌≢◌}
use mathlib.Core.Bool.{Bool, true, false, cond}
use mathlib.Core.List.{List}
use native.Mathlib.Omega.{arith}
use lib.Dec.{ltb}
use lib.ListN.{length, get_or}
use borrow.Author.Tests.{ltb-true, ltb-false, le-ltb}
use Rattle.tables.specs.Rows.{SupplyRow}
use Rattle.tables.specs.declared.constraint.ConstraintRow.{ConstraintRow}
use Rattle.market.specs.Clearing.{eligible_supply, short, need_of}
use Rattle.numbers.specs.Numbers.{place_of}
use Rattle.numbers.proofs.SearchLaws.{place-holds}
use Rattle.market.specs.Parties.{parties}
use Rattle.market.specs.Removals.{PartyOf, Removes, remaining}
use Rattle.market.proofs.ClearingLaws.{clearing-clears}
use Rattle.market.proofs.LeastOverRows.{party-place, least-over-rows, attained-over-rows}
use Rattle.pivotal.specs.Test.{pivotal, Verdict, U, P, F, verdict_letter}
use Rattle.outcome.specs.Decision.{untested, cleared, left_of, verdict_of, left_shown}
use Rattle.outcome.specs.Right.{Clearing, RightTest}
use Rattle.outcome.proofs.OneMarket.{remaining-same}

module _ (c : ConstraintRow) (rows : List SupplyRow) (k : ℕ) (p : PartyOf rows k) where
  -- what the test leaves of the market of the row that was found to clear
  at_place : (place_of k (parties rows) < length (parties rows)) × (get_or (parties rows) (place_of k (parties rows)) 0 ≡ k)
  at_place = place-holds k (parties rows) (party-place rows k p)

  left-least : (taken : List ℕ) → Removes rows k taken → left_of c rows k ≤ remaining c.cutoff (cleared c rows) taken rows
  unfolding left_of
  left-least taken r =
      least-over-rows c.cutoff (cleared c rows) rows (place_of k (parties rows)) at_place.0 taken (rw at_place.1 r)

  left-reached :
      (taken : List ℕ) × Removes rows k taken × (remaining c.cutoff (cleared c rows) taken rows ≡ left_of c rows k)
  unfolding left_of
  left-reached =
      rw at_place.1 at (attained-over-rows c.cutoff (cleared c rows) rows (place_of k (parties rows)) at_place.0)

-- what the test decides, by cases
data Decides (c : ConstraintRow) (rows : List SupplyRow) (k : ℕ) : Verdict → ℕ → Type 0 where
  short-of : eligible_supply c.cutoff rows < need_of c.relief → Decides c rows k U 0
  failed : need_of c.relief ≤ eligible_supply c.cutoff rows → left_of c rows k < need_of c.relief → Decides c rows k F (left_of c rows k)
  passed : need_of c.relief ≤ eligible_supply c.cutoff rows → need_of c.relief ≤ left_of c rows k → Decides c rows k P (left_of c rows k)

decides : (c : ConstraintRow) (rows : List SupplyRow) (k : ℕ) → Decides c rows k (verdict_of c rows k) (left_shown c rows k)
unfolding verdict_of left_shown untested short pivotal
decides c rows k = go (ltb supply (need_of c.relief)) (ltb (left_of c rows k) (need_of c.relief)) refl refl
  where
    supply : ℕ
    supply = eligible_supply c.cutoff rows

    go :
        (t u : Bool) → ltb supply (need_of c.relief) ≡ t → ltb (left_of c rows k) (need_of c.relief) ≡ u →
        Decides c rows k (cond t U (cond u F P)) (cond t 0 (left_of c rows k))
    go true u e f = short-of (ltb-true _ _ e)
    go false true e f = failed (ltb-false _ _ e) (ltb-true _ _ f)
    go false false e f = passed (ltb-false _ _ e) (ltb-false _ _ f)

-- the row that was found to clear clears, where eligible supply is not short of the need
module _ (c : ConstraintRow) (rows : List SupplyRow) (positive : 0 < c.cutoff) (some-need : 0 < need_of c.relief) where
  pub cleared-clears : need_of c.relief ≤ eligible_supply c.cutoff rows → Clearing c rows (cleared c rows)
  unfolding cleared short
  cleared-clears h =
      let not_IsShort = le-ltb (eligible_supply c.cutoff rows) (need_of c.relief) h in
      (clearing-clears c.cutoff (need_of c.relief) rows positive some-need not_IsShort).1

  module _ (k : ℕ) (p : PartyOf rows k) where
    -- what the test leaves is the least that a removal leaves, by whichever clearing row
    module _ (enough : need_of c.relief ≤ eligible_supply c.cutoff rows) (q : SupplyRow) (d : Clearing c rows q) where
      same_left : (taken : List ℕ) → remaining c.cutoff q taken rows ≡ remaining c.cutoff (cleared c rows) taken rows
      same_left = remaining-same c.cutoff (need_of c.relief) rows positive q (cleared c rows) d (cleared-clears enough)

      least_by : (taken : List ℕ) → Removes rows k taken → left_of c rows k ≤ remaining c.cutoff q taken rows
      least_by taken r = rw (same_left taken) (left-least c rows k p taken r)

      reached-by : (taken : List ℕ) × Removes rows k taken × (remaining c.cutoff q taken rows ≡ left_of c rows k)
      reached-by =
          let (taken, r, e) = left-reached c rows k p in
          (taken, r, same_left taken ∙ e)

    right : {v : Verdict} {l : ℕ} → Decides c rows k v l → RightTest c rows k (verdict_letter v) l
    right (short-of h) =
        record {
          shows-U = (λ _. omega arith, λ _. refl);
          some-clears = λ n. absurd (n refl);
          shows-F = λ n. absurd (n refl);
          else-P = λ n. absurd (n refl);
          nothing_left = λ _. omega arith;
          reached = λ n. absurd (n refl);
          least = λ n. absurd (n refl);
        }
    right (failed h l) =
        record {
          shows-U = (λ e. absurd (omega arith), λ e. absurd (omega arith));
          some-clears = λ n. (cleared c rows, cleared-clears h);
          shows-F = λ n q d.
              let (taken, r, e) = reached-by h q d in
              (λ _. (taken, r, omega arith), λ _. refl);
          else-P = λ n m. absurd (m refl);
          nothing_left = λ e. absurd (omega arith);
          reached = λ n q d.
              let (taken, r, e) = reached-by h q d in
              (taken, r, omega arith);
          least = λ n q d taken r. omega (arith, least_by h q d taken r);
        }
    right (passed h l) =
        record {
          shows-U = (λ e. absurd (omega arith), λ e. absurd (omega arith));
          some-clears = λ n. (cleared c rows, cleared-clears h);
          shows-F = λ n q d. (λ e. absurd (omega arith), λ x. absurd (omega (arith, x.2, least_by h q d x.0 x.1)));
          else-P = λ n m. refl;
          nothing_left = λ e. absurd (omega arith);
          reached = λ n q d.
              let (taken, r, e) = reached-by h q d in
              (taken, r, omega arith);
          least = λ n q d taken r. omega (arith, least_by h q d taken r);
        }

    -- where the test can be performed, the amount that is right is what it leaves
    module _ (enough : need_of c.relief ≤ eligible_supply c.cutoff rows) {v l : ℕ} (t : RightTest c rows k v l) where
      not-U : v ≢ verdict_letter U
      not-U e = omega (arith, t.shows-U.0 e)

      only-left : l ≡ left_of c rows k
      only-left =
          let (taken, r, e) = t.reached not-U (cleared c rows) (cleared-clears enough) in
          let (other, s, f) = left-reached c rows k p in
          omega (arith, left-least c rows k p taken r, t.least not-U (cleared c rows) (cleared-clears enough) other s)

    only : {w : Verdict} {m : ℕ} → Decides c rows k w m → {v l : ℕ} → RightTest c rows k v l → (v ≡ verdict_letter w) × (l ≡ m)
    only (short-of h) t =
        let shown = t.shows-U.1 (omega arith) in
        (shown, omega (arith, t.nothing_left shown))
    only (failed h b) t =
        let (taken, r, e) = left-reached c rows k p in
        ((t.shows-F (not-U h t) (cleared c rows) (cleared-clears h)).1 (taken, r, omega arith), only-left h t)
    only (passed h b) {v} t = (t.else-P (not-U h t) not-F, only-left h t)
      where
        not-F : v ≢ verdict_letter F
        not-F e =
            let (taken, r, less) = (t.shows-F (not-U h t) (cleared c rows) (cleared-clears h)).0 e in
            omega (arith, left-least c rows k p taken r)

    -- what is decided of the party is right
    pub test-right : RightTest c rows k (verdict_letter (verdict_of c rows k)) (left_shown c rows k)
    test-right = right (decides c rows k)

    -- and nothing else is
    pub test-only :
        {v l : ℕ} → RightTest c rows k v l → (v ≡ verdict_letter (verdict_of c rows k)) × (l ≡ left_shown c rows k)
    test-only t = only (decides c rows k) t

-- a failed party was tested
pub failed-tested :
    (c : ConstraintRow) (rows : List SupplyRow) (k : ℕ) → verdict_of c rows k ≡ F → need_of c.relief ≤ eligible_supply c.cutoff rows
failed-tested c rows k e = go (decides c rows k) e
  where
    go : {v : Verdict} {l : ℕ} → Decides c rows k v l → v ≡ F → need_of c.relief ≤ eligible_supply c.cutoff rows
    go (short-of h) e = let z : ◌≡◌ {A = ℕ} 0 1 = cc in absurd (omega arith)
    go (failed h b) e = h
    go (passed h b) e = h
