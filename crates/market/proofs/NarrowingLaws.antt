-- Laws of the search for the clearing cost: what the rows at and below its two bounds supply, how the bounds narrow, and
-- that the high one is the clearing cost where no row that counts lies between them. Assumes nothing.
use Prim.Native.Nat.{ℕ, ◌+◌, ◌*◌, ◌/◌, ◌%◌, ◌≤◌, ◌<◌}
use mathlib.Core.Path.{◌≡◌, refl, sym, ◌∙◌}
use mathlib.Core.Logic.{◌⊎◌, inl, inr, ⊎_elim}
use mathlib.Core.Bool.{Bool, true, false, cond, ◌&&◌, and-false}
use mathlib.Core.List.{List, Memᴰ}
use native.Mathlib.Omega.{arith}
use lib.Dec.{ltb}
use borrow.Author.Tests.{le-leb, lt-leb, lt-ltb, le-ltb, ltb-true, ltb-false, eq-eqb, ne_eqb}
use Rattle.base.proofs.Tests.{false-true, lt-or-ge, and-fst, and-snd}
use Rattle.base.proofs.Members.{place_of}
use Rattle.tables.specs.Rows.{SupplyRow}
use Rattle.tables.specs.promises.FlatRows.{supply_rows}
use Rattle.cells.proofs.RowViews.{supply-length}
use Rattle.market.specs.declared.narrowing.Bounds.{Bounds}
use Rattle.offers.specs.Supply.{eligible, supply, total_supply, cost_beside, at_most, below, no_row, row_at}
use Rattle.market.specs.Clearing.{eligible_up_to, eligible_below, clears}
use Rattle.market.specs.promises.Narrowing.{
  eligible_at,
  counts,
  cheaper,
  between,
  Outside,
  Bounding,
  Narrows,
  ClearingCost,
}
use Rattle.cells.specs.promises.Views.{supply_at}
use Rattle.offers.specs.promises.Ranges.{SupplyCells}
use Rattle.offers.proofs.CellLaws.{row-at}
use Rattle.market.proofs.ClearingLaws.{
  up_to,
  up-to-eligible,
  up-to-most,
  below_both,
  below-eligible,
  below-strictly,
  dearer,
}
use Rattle.offers.proofs.SupplyLaws.{
  supply-within,
  supply-mono,
  supply-none,
  AtMost,
  at-most,
  at-most-true,
  not-below,
  below-or-above,
  one_way,
  through-supply,
}

-- what the tests say
module _ (cutoff : ℕ) (q : SupplyRow) where
  counts-eligible : counts cutoff q ≡ true → eligible cutoff q ≡ true
  unfolding counts
  counts-eligible e = and-fst (eligible cutoff q) _ e

  counts-supplies : counts cutoff q ≡ true → 0 < supply q
  unfolding counts
  counts-supplies e = ltb-true 0 (supply q) (and-snd (eligible cutoff q) _ e)

  counting : eligible cutoff q ≡ true → 0 < supply q → counts cutoff q ≡ true
  unfolding counts
  counting e pos = simp (e, lt-ltb 0 (supply q) pos)

not-below-most : (r q : SupplyRow) → below q r ≡ false → AtMost q r
unfolding below AtMost
not-below-most r q e = ltb-false (cost_beside q r) (cost_beside r q) e

below-most : (r q : SupplyRow) → below q r ≡ true → AtMost r q
unfolding below AtMost
below-most r q e = let h = ltb-true (cost_beside q r) (cost_beside r q) e in omega arith

-- a row h that supplies something, where the rows at or below its cost supply at least the need and those below it less:
-- the rows that clear are the eligible ones of its cost
module _
    (cutoff need : ℕ) (rows : List SupplyRow) (h : SupplyRow) (pos : 0 < supply h)
    (enough : need ≤ total_supply (eligible_up_to cutoff h) rows) (less : total_supply (eligible_below cutoff h) rows < need)
  where
    -- rows of a cost at or above h's, and at or below it
    up_more : (q : SupplyRow) → AtMost h q → need ≤ total_supply (eligible_up_to cutoff q) rows
    up_more q a =
        omega (
          arith,
          supply-mono (eligible_up_to cutoff h) (eligible_up_to cutoff q) rows
              (λ r m e. up_to cutoff q r (up-to-eligible cutoff h r e) (through-supply r h q pos (up-to-most cutoff h r e) a)),
        )

    below_less : (q : SupplyRow) → AtMost q h → total_supply (eligible_below cutoff q) rows < need
    below_less q a = omega (arith, supply-mono (eligible_below cutoff q) (eligible_below cutoff h) rows each)
      where
        each : (r : SupplyRow) → Memᴰ r rows → eligible_below cutoff q r ≡ true → eligible_below cutoff h r ≡ true
        each r m e =
            ⊎_elim
            (below_both cutoff h r (below-eligible cutoff q r e))
            (λ b. absurd (not-below r q (through-supply q h r pos a b) (below-strictly cutoff q r e)))
            (below-or-above r h)

    pub clears-at : (q : SupplyRow) → clears cutoff need rows q ≡ eligible_at cutoff h q
    unfolding clears eligible_at below AtMost
    clears-at q =
        ⊎_elim under-it (λ a. ⊎_elim (over-it a) (same a) (below-or-above h q)) (below-or-above q h)
      where
        Goal : Type 0
        Goal = clears cutoff need rows q ≡ eligible_at cutoff h q

        under-it : below h q ≡ true → Goal
        under-it b =
            let cost = ltb-true (cost_beside h q) (cost_beside q h) b in
            simp (
              lt-leb need (total_supply (eligible_up_to cutoff q) rows) (omega (arith, dearer cutoff rows q h b)),
              ne_eqb (cost_beside h q) (cost_beside q h) (omega arith),
              and-false,
            )

        over-it : AtMost h q → below q h ≡ true → Goal
        over-it a b =
            let cost = ltb-true (cost_beside q h) (cost_beside h q) b in
            simp (
              le-ltb (total_supply (eligible_below cutoff q) rows) need (omega (arith, dearer cutoff rows h q b)),
              ne_eqb (cost_beside h q) (cost_beside q h) (omega arith),
              and-false,
            )

        same : AtMost h q → AtMost q h → Goal
        same a b =
            simp (
              le-leb need (total_supply (eligible_up_to cutoff q) rows) (up_more q a),
              lt-ltb (total_supply (eligible_below cutoff q) rows) need (below_less q b),
              eq-eqb (cost_beside h q) (cost_beside q h) (omega arith),
            )

-- and where all eligible rows supply less, none clears
clears-none :
    (cutoff need : ℕ) (rows : List SupplyRow) → total_supply (eligible cutoff) rows < need → (q : SupplyRow) →
    clears cutoff need rows q ≡ false
unfolding clears
clears-none cutoff need rows less q =
    simp (
      lt-leb need (total_supply (eligible_up_to cutoff q) rows)
          (omega (arith, supply-mono (eligible_up_to cutoff q) (eligible cutoff) rows (λ r m e. up-to-eligible cutoff q r e))),
      and-false,
    )

-- no supply is below a need of 0
pub clears-nothing :
    (cutoff need : ℕ) → need ≡ 0 → (rows : List SupplyRow) (q : SupplyRow) → clears cutoff need rows q ≡ false
unfolding clears
clears-nothing cutoff need e rows q = simp (le-ltb (total_supply (eligible_below cutoff q) rows) need (omega arith), and-false)

-- what the test of two rows' costs says
module _ (n : ℕ) (cells : List ℕ) (i j : ℕ) where
  not-cheaper : cheaper n cells i j ≡ false → (i < n) × (j < n) × (at_most (supply_at cells i) (supply_at cells j) ≡ true)
  unfolding cheaper
  not-cheaper e = go (ltb i n) (ltb j n) refl refl e
    where
      its : Bool
      its = below (supply_at cells j) (supply_at cells i)

      go :
          (t u : Bool) → ltb i n ≡ t → ltb j n ≡ u → cond (t && u) its true ≡ false →
          (i < n) × (j < n) × (at_most (supply_at cells i) (supply_at cells j) ≡ true)
      go true true f g e =
          (ltb-true i n f, ltb-true j n g, at-most (supply_at cells j) (supply_at cells i) (not-below-most (supply_at cells i) (supply_at cells j) e))
      go true false f g e = false-true (sym e)
      go false u f g e = false-true (sym e)

  is-cheaper : cheaper n cells i j ≡ true → i < n → j < n → AtMost (supply_at cells i) (supply_at cells j)
  unfolding cheaper
  is-cheaper e h k = below-most (supply_at cells i) (supply_at cells j) (simp (lt-ltb i n h, lt-ltb j n k) at e)

and_cases : (s t u : Bool) → s ≡ true → (s && (t && u)) ≡ false → (t ≡ false) ⊎ (u ≡ false)
and_cases true true u c e = inr e
and_cases true false u c e = inl refl
and_cases false t u c e = false-true c

-- one row looked at
module _ (n : ℕ) (cells : List ℕ) (cutoff need : ℕ) (b : Bounds) (bounding : Bounding n cells cutoff need b) (i : ℕ) where
  abbrev q : SupplyRow
  q = supply_at cells i

  not-between : between n cells cutoff b i ≡ false → counts cutoff q ≡ true → Outside n cells b q
  unfolding between
  not-between e c =
      ⊎_elim
      (λ f.
      let (h, _, a) = not-cheaper n cells b.low i f in
      inl (h, a))
      (λ f.
      let (_, h, a) = not-cheaper n cells i b.high f in
      inr (h, a))
      (and_cases (counts cutoff q) (cheaper n cells b.low i) (cheaper n cells i b.high) c e)

  pub narrows-not : (i < n → between n cells cutoff b i ≡ false) → Narrows n cells cutoff need b i b
  narrows-not e =
      record {
        bounding = bounding;
        still-outside = λ _ o. o;
        now-outside = λ h c. not-between (e h) c;
      }

  module _ (e : between n cells cutoff b i ≡ true) (up : ℕ) (f : up ≡ total_supply (eligible_up_to cutoff q) (supply_rows n cells)) where
    it-counts : counts cutoff q ≡ true
    unfolding between
    it-counts = and-fst (counts cutoff q) _ e

    over-low : cheaper n cells b.low i ≡ true
    unfolding between
    over-low = and-fst (cheaper n cells b.low i) _ (and-snd (counts cutoff q) _ e)

    under-high : cheaper n cells i b.high ≡ true
    unfolding between
    under-high = and-snd (cheaper n cells b.low i) _ (and-snd (counts cutoff q) _ e)

    itself : at_most q q ≡ true
    itself = at-most q q (⊎_elim (λ h. h) (λ h. h) (one_way q q))

    pub narrows-low : i < n → up < need → Narrows n cells cutoff need b i record { low = i; high = b.high }
    narrows-low h less =
        record {
          bounding = record {
            low-counts = λ _. it-counts;
            low-short = λ _. omega arith;
            high-counts = bounding.high-counts;
            high-enough = bounding.high-enough;
          };
          still-outside = λ r o. ⊎_elim (λ l. inl (h, further r l.0 l.1)) inr o;
          now-outside = λ _ _. inl (h, itself);
        }
      where
        further : (r : SupplyRow) → b.low < n → at_most (supply_at cells b.low) r ≡ true → at_most q r ≡ true
        further r k a =
            let low = supply_at cells b.low in
            at-most r q
            (through-supply r low q (counts-supplies cutoff low (bounding.low-counts k)) (at-most-true r low a) (is-cheaper n cells b.low i over-low k h))

    pub narrows-high : i < n → need ≤ up → Narrows n cells cutoff need b i record { low = b.low; high = i }
    narrows-high h enough =
        record {
          bounding = record {
            low-counts = bounding.low-counts;
            low-short = bounding.low-short;
            high-counts = λ _. it-counts;
            high-enough = λ _. omega arith;
          };
          still-outside = λ r o. ⊎_elim inl (λ l. inr (h, further r l.0 l.1)) o;
          now-outside = λ _ _. inr (h, itself);
        }
      where
        further : (r : SupplyRow) → b.high < n → at_most r (supply_at cells b.high) ≡ true → at_most r q ≡ true
        further r k a =
            let high = supply_at cells b.high in
            at-most q r
            (through-supply q high r (counts-supplies cutoff high (bounding.high-counts k)) (is-cheaper n cells i b.high under-high h k) (at-most-true high r a))

-- the row that a turn visits, and the turn that visits a row
abbrev pub visited : ℕ → ℕ
visited turn = turn * 157 % 256

turn_of : ℕ → ℕ
turn_of i = i * 181 % 256

turn-of : (i : ℕ) → i < 256 → (turn_of i < 256) × (visited (turn_of i) ≡ i)
unfolding turn_of
turn-of i h = (omega arith, ⊎_elim (λ l. absurd (omega arith)) (λ l. same (omega arith)) (lt-or-ge (157 * a + b) (111 * i)))
  where
    a : ℕ
    a = i * 181 / 256

    b : ℕ
    b = i * 181 % 256 * 157 / 256

    same : 111 * i ≤ 157 * a + b → visited (turn_of i) ≡ i
    same l = ⊎_elim (λ m. absurd (omega arith)) (λ m. omega arith) (lt-or-ge (111 * i) (157 * a + b))

-- the rows of the first turns lie outside the bounds, if they count
pub record Searching (n : ℕ) (cells : List ℕ) (cutoff need turn : ℕ) (b : Bounds) : Type 0 where
  pub bounding : Bounding n cells cutoff need b
  pub outside :
      (t : ℕ) → t < turn → visited t < n → counts cutoff (supply_at cells (visited t)) ≡ true →
      Outside n cells b (supply_at cells (visited t))

module _ (n : ℕ) (cells : List ℕ) (cutoff need : ℕ) where
  pub searching-none : Searching n cells cutoff need 0 record { low = n; high = n }
  searching-none =
      record {
        bounding = record {
          low-counts = λ h. absurd (omega arith);
          low-short = λ h. absurd (omega arith);
          high-counts = λ h. absurd (omega arith);
          high-enough = λ h. absurd (omega arith);
        };
        outside = λ t h. absurd (omega arith);
      }

  pub searching-next :
      (turn i : ℕ) (b r : Bounds) → i ≡ visited turn → Searching n cells cutoff need turn b → Narrows n cells cutoff need b i r →
      Searching n cells cutoff need (turn + 1) r
  searching-next turn i b r e s l =
      record { bounding = l.bounding; outside = passed }
    where
      passed :
          (t : ℕ) → t < turn + 1 → visited t < n → counts cutoff (supply_at cells (visited t)) ≡ true →
          Outside n cells r (supply_at cells (visited t))
      passed t h k c =
          ⊎_elim
          (λ earlier. l.still-outside _ (s.outside t earlier k c))
          (λ later.
          let same : t ≡ turn = omega arith in
          let last : visited t ≡ i = rw same (sym e) in
          rw last (l.now-outside (rw last at k) (rw last at c)))
          (lt-or-ge t turn)

  module _
      (in-range : SupplyCells n cells) (some-need : 0 < need) (turn : ℕ) (b : Bounds) (over : 256 ≤ turn)
      (s : Searching n cells cutoff need turn b)
    where
      rows : List SupplyRow
      rows = supply_rows n cells

      -- each row that counts
      each-place : (i : ℕ) → i < n → counts cutoff (supply_at cells i) ≡ true → Outside n cells b (supply_at cells i)
      each-place i h c =
          let few = in-range.few in
          let (small, back) = turn-of i (omega arith) in
          rw back at (s.outside (turn_of i) (omega arith) (rw back h) (rw back c))

      each_row : (r : SupplyRow) → Memᴰ r rows → counts cutoff r ≡ true → Outside n cells b r
      unfolding rows row_at
      each_row r m c =
          let (i, h, e) = place_of no_row m in
          let k : i < n = omega (arith, supply-length n cells) in
          let same : supply_at cells i ≡ r = sym (row-at n cells i k) ∙ e in
          rw same at (each-place i k (rw same c))

      -- whatever lies at or below the low bound supplies less than the need
      low-less :
          (p : SupplyRow → Bool) →
          ((r : SupplyRow) → p r ≡ true → eligible cutoff r ≡ true) →
          ((r : SupplyRow) → p r ≡ true → Outside n cells b r → (b.low < n) × (at_most (supply_at cells b.low) r ≡ true)) →
          total_supply p rows < need
      unfolding rows
      low-less p el at_low = ⊎_elim some none (lt-or-ge b.low n)
        where
          low : SupplyRow
          low = supply_at cells b.low

          outside : (r : SupplyRow) → Memᴰ r rows → 0 < supply r → p r ≡ true → Outside n cells b r
          outside r m pos e = each_row r m (counting cutoff r (el r e) pos)

          some : b.low < n → total_supply p rows < need
          some h =
              omega (
                arith,
                s.bounding.low-short h,
                supply-within p (eligible_up_to cutoff low) rows
                    (λ r m pos e. up_to cutoff low r (el r e) (at-most-true r low (at_low r e (outside r m pos e)).1)),
              )

          none : n ≤ b.low → total_supply p rows < need
          none h =
              omega (
                arith,
                supply-none (λ _. false) rows (λ r m. refl),
                supply-within p (λ _. false) rows
                    (λ r m pos e. absurd (omega (arith, (at_low r e (outside r m pos e)).0))),
              )

      high-less : b.high < n → total_supply (eligible_below cutoff (supply_at cells b.high)) rows < need
      high-less h =
          let high = supply_at cells b.high in
          low-less (eligible_below cutoff high) (λ r e. below-eligible cutoff high r e)
          (λ r e o. ⊎_elim (λ l. l) (λ l. absurd (not-below r high (at-most-true high r l.1) (below-strictly cutoff high r e))) o)

      pub searching-over : ClearingCost n cells cutoff need b.high
      unfolding rows
      searching-over =
          record {
            at-cost = λ h.
                let high = supply_at cells b.high in
                clears-at cutoff need rows high (counts-supplies cutoff high (s.bounding.high-counts h)) (s.bounding.high-enough h) (high-less h);
            none-clears = λ h.
                clears-none cutoff need rows
                (low-less (eligible cutoff) (λ r e. e) (λ r e o. ⊎_elim (λ l. l) (λ l. absurd (omega (arith, l.0))) o));
          }
