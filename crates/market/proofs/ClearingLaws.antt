-- The clearing row: the test for it decides `Clears`; one exists exactly when eligible supply is not short of the need; all
-- have one cost; and the search finds one. A cutoff and a need are at least 1, as the table has them. Assumes nothing.
use Rattle.std.specs.Prelude.{Option, unwrap_or}
use Prim.Native.Nat.{ℕ, ◌+◌, ◌≤◌, ◌<◌}
use mathlib.Core.Path.{◌≡◌, refl, sym, ◌∙◌}
use mathlib.Core.Logic.{⊎_elim, ◌↔◌}
use mathlib.Core.Bool.{Bool, true, false, ◌&&◌}
use mathlib.Core.List.{List, Memᴰ}
use native.Mathlib.Omega.{arith}
use lib.Dec.{leb, ltb}
use lib.ListN.{length, get_or}
use borrow.Author.Tests.{le-leb, leb-true, lt-ltb, le-ltb, ltb-true, ltb-false}
use Rattle.base.proofs.Tests.{false-true, lt-or-ge, and-fst, and-snd}
use Rattle.base.proofs.Members.{Lowest, lowest, Finds, it, nothing, finds, member-at}
use Rattle.tables.specs.Rows.{SupplyRow}
use Rattle.offers.specs.Supply.{abs_dfax, eligible, supply, total_supply, at_most, below, no_row, row_at}
use Rattle.market.specs.Clearing.{eligible_supply, short, eligible_up_to, eligible_below, Clears, clears, clearing, clearing_row}
use Rattle.offers.proofs.SupplyLaws.{
  supply-within,
  supply-mono,
  supply-none,
  AtMost,
  at-most,
  at-most-true,
  not-below,
  below-or-above,
  one_way,
  through,
  through-supply,
}

-- what the tests on a row say
module _ (cutoff : ℕ) (q r : SupplyRow) where
  eligible-is : eligible cutoff r ≡ true → cutoff ≤ abs_dfax r
  unfolding eligible
  eligible-is e = leb-true cutoff (abs_dfax r) e

  pub up_to : eligible cutoff r ≡ true → AtMost r q → eligible_up_to cutoff q r ≡ true
  unfolding eligible_up_to
  up_to e h = simp (e, at-most r q h)

  pub up-to-eligible : eligible_up_to cutoff q r ≡ true → eligible cutoff r ≡ true
  unfolding eligible_up_to
  up-to-eligible e = and-fst (eligible cutoff r) (at_most q r) e

  pub up-to-most : eligible_up_to cutoff q r ≡ true → AtMost r q
  unfolding eligible_up_to
  up-to-most e = at-most-true r q (and-snd (eligible cutoff r) (at_most q r) e)

  pub below_both : eligible cutoff r ≡ true → below q r ≡ true → eligible_below cutoff q r ≡ true
  unfolding eligible_below
  below_both e f = simp (e, f)

  pub below-eligible : eligible_below cutoff q r ≡ true → eligible cutoff r ≡ true
  unfolding eligible_below
  below-eligible e = and-fst (eligible cutoff r) (below q r) e

  pub below-strictly : eligible_below cutoff q r ≡ true → below q r ≡ true
  unfolding eligible_below
  below-strictly e = and-snd (eligible cutoff r) (below q r) e

-- what the rows at or below the cost of a row supply is supplied below the cost of a row that is dearer
pub dearer :
    (cutoff : ℕ) (rows : List SupplyRow) (q s : SupplyRow) → below s q ≡ true →
    total_supply (eligible_up_to cutoff q) rows ≤ total_supply (eligible_below cutoff s) rows
dearer cutoff rows q s b = supply-within (eligible_up_to cutoff q) (eligible_below cutoff s) rows each
  where
    each :
        (r : SupplyRow) → Memᴰ r rows → 0 < supply r → eligible_up_to cutoff q r ≡ true → eligible_below cutoff s r ≡ true
    each r m pos e =
        ⊎_elim
        (below_both cutoff s r (up-to-eligible cutoff q r e))
        (λ h. absurd (not-below q s (through-supply s r q pos h (up-to-most cutoff q r e)) b))
        (below-or-above r s)

module _ (cutoff need : ℕ) (rows : List SupplyRow) (q : SupplyRow) where
  -- the test decides what the paper says
  pub clears-decides : Clears cutoff need rows q ↔ (Memᴰ q rows × (clears cutoff need rows q ≡ true))
  unfolding clears eligible
  clears-decides = (
    λ c. (c.a-row, simp (le-leb cutoff (abs_dfax q) c.is-eligible, le-leb need _ c.enough, lt-ltb _ need c.less)),
    λ m.
        let up = total_supply (eligible_up_to cutoff q) rows in
        let under = total_supply (eligible_below cutoff q) rows in
        let supplies : (leb need up && ltb under need) ≡ true = and-snd (leb cutoff (abs_dfax q)) _ m.1 in
        record {
          a-row = m.0;
          is-eligible = leb-true cutoff (abs_dfax q) (and-fst (leb cutoff (abs_dfax q)) _ m.1);
          enough = leb-true need up (and-fst (leb need up) (ltb under need) supplies);
          less = ltb-true under need (and-snd (leb need up) (ltb under need) supplies);
        },
  )

  -- where a row clears, eligible supply is not short of the need
  pub clears-enough : Clears cutoff need rows q → need ≤ eligible_supply cutoff rows
  unfolding eligible_supply
  clears-enough c =
      omega (arith, c.enough, supply-mono (eligible_up_to cutoff q) (eligible cutoff) rows (λ r m e. up-to-eligible cutoff q r e))

module _ (cutoff need : ℕ) (rows : List SupplyRow) (positive : 0 < cutoff) where
  -- the order of costs goes through eligible rows
  through-eligible : (r s q : SupplyRow) → eligible cutoff s ≡ true → AtMost r s → AtMost s q → AtMost r q
  through-eligible r s q e = through r s q (omega (arith, eligible-is cutoff s s e))

  -- all clearing rows have one cost
  pub clears-once : (q s : SupplyRow) → Clears cutoff need rows q → Clears cutoff need rows s → at_most q s ≡ true
  clears-once q s c d =
      ⊎_elim
      (λ b. absurd (omega (arith, c.enough, d.less, dearer cutoff rows q s b)))
      (at-most s q)
      (below-or-above q s)

  -- the dearest of the eligible rows that pass a test, where those supply anything
  dearest :
      (p : SupplyRow → Bool) → ((r : SupplyRow) → p r ≡ true → eligible cutoff r ≡ true) → 0 < total_supply p rows →
      Lowest (λ r q. AtMost q r) p rows
  dearest p h pos =
      ⊎_elim
      (λ l. l)
      (λ n. absurd (omega (arith, supply-none p rows n)))
      (lowest (λ r q. AtMost q r) p (λ r q. one_way q r) (λ r s q e a b. through-eligible q s r (h s e) b a) rows)

  -- eligible rows with which the rows at or below supply the need
  reaches : SupplyRow → Bool
  reaches q = eligible cutoff q && leb need (total_supply (eligible_up_to cutoff q) rows)

  reaches-eligible : (q : SupplyRow) → reaches q ≡ true → eligible cutoff q ≡ true
  unfolding reaches
  reaches-eligible q e = and-fst (eligible cutoff q) _ e

  reaches-enough : (q : SupplyRow) → reaches q ≡ true → need ≤ total_supply (eligible_up_to cutoff q) rows
  unfolding reaches
  reaches-enough q e = leb-true need _ (and-snd (eligible cutoff q) _ e)

  -- the dearest row of those that pass a test reaches the need, where those supply it
  dearest-reaches :
      (p : SupplyRow → Bool) → ((r : SupplyRow) → p r ≡ true → eligible cutoff r ≡ true) → need ≤ total_supply p rows →
      (d : Lowest (λ r q. AtMost q r) p rows) → reaches d.it ≡ true
  unfolding reaches
  dearest-reaches p h n d =
      let all = supply-mono p (eligible_up_to cutoff d.it) rows (λ r m e. up_to cutoff d.it r (h r e) (d.no-higher r m e)) in
      simp (h d.it d.passes, le-leb need (total_supply (eligible_up_to cutoff d.it) rows) (omega arith))

  module _ (some-need : 0 < need) where
    -- the cheapest row that reaches the need clears
    cheapest-clears : Lowest AtMost reaches rows → (q : SupplyRow) × Clears cutoff need rows q
    cheapest-clears l = (
      l.it,
      record {
        a-row = l.a-member;
        is-eligible = eligible-is cutoff l.it l.it (reaches-eligible l.it l.passes);
        enough = reaches-enough l.it l.passes;
        less = ⊎_elim (λ h. h) (λ h. absurd (too-cheap h)) (lt-or-ge (total_supply (eligible_below cutoff l.it) rows) need);
      },
    )
      where
        too-cheap : need ≤ total_supply (eligible_below cutoff l.it) rows → ⊥
        too-cheap h =
            let d = dearest (eligible_below cutoff l.it) (λ r. below-eligible cutoff l.it r) (omega arith) in
            let reached = dearest-reaches (eligible_below cutoff l.it) (λ r. below-eligible cutoff l.it r) h d in
            not-below d.it l.it (l.no-higher d.it d.a-member reached) (below-strictly cutoff l.it d.it d.passes)

    -- where eligible supply is not short of the need, a row clears
    pub clears-exists : need ≤ eligible_supply cutoff rows → (q : SupplyRow) × Clears cutoff need rows q
    unfolding eligible_supply
    clears-exists h =
        ⊎_elim cheapest-clears none-reaches (lowest AtMost reaches one_way (λ r s q e. through-eligible r s q (reaches-eligible s e)) rows)
      where
        none-reaches : ((r : SupplyRow) → Memᴰ r rows → reaches r ≡ false) → (q : SupplyRow) × Clears cutoff need rows q
        none-reaches n =
            let d = dearest (eligible cutoff) (λ r e. e) (omega arith) in
            false-true (sym (n d.it d.a-member) ∙ dearest-reaches (eligible cutoff) (λ r e. e) h d)

-- a row clears exactly when eligible supply is not short of the need
pub clears-exactly :
    (cutoff need : ℕ) (rows : List SupplyRow) → 0 < cutoff → 0 < need →
    (short cutoff need rows ≡ false) ↔ ((q : SupplyRow) × Clears cutoff need rows q)
unfolding short
clears-exactly cutoff need rows positive some-need = (
  λ e. clears-exists cutoff need rows positive some-need (ltb-false (eligible_supply cutoff rows) need e),
  λ c. le-ltb (eligible_supply cutoff rows) need (clears-enough cutoff need rows c.0 c.1),
)

-- what the search for a clearing row finds
module _ (cutoff need : ℕ) (rows : List SupplyRow) where
  found :
      {o : Option ℕ} → (q : SupplyRow) × Clears cutoff need rows q → Finds no_row (clears cutoff need rows) 0 rows o →
      (unwrap_or o (length rows) < length rows) × Clears cutoff need rows (row_at rows (unwrap_or o (length rows)))
  unfolding row_at
  found c (it i h e) =
      let place : 0 + i ≡ i = omega arith in
      rw place (h, (clears-decides cutoff need rows (get_or rows i no_row)).1 (member-at no_row rows i h, e))
  found (q, c) (nothing n) =
      let (m, e) = (clears-decides cutoff need rows q).0 c in
      false-true (sym (n q m) ∙ e)

  -- a clearing row, where eligible supply is not short of the need
  pub clearing-clears :
      0 < cutoff → 0 < need → short cutoff need rows ≡ false →
      (clearing cutoff need rows < length rows) × Clears cutoff need rows (clearing_row cutoff need rows)
  unfolding clearing clearing_row
  clearing-clears positive some-need e =
      found ((clears-exactly cutoff need rows positive some-need).0 e) (finds no_row (clears cutoff need rows) 0 rows)

  not_found :
      {o : Option ℕ} → eligible_supply cutoff rows < need → Finds no_row (clears cutoff need rows) 0 rows o →
      unwrap_or o (length rows) ≡ length rows
  not_found h (it i k e) =
      let c = (clears-decides cutoff need rows (get_or rows i no_row)).1 (member-at no_row rows i k, e) in
      absurd (omega (arith, clears-enough cutoff need rows (get_or rows i no_row) c))
  not_found h (nothing n) = refl

  -- and none, where it is
  pub clearing-none : short cutoff need rows ≡ true → clearing cutoff need rows ≡ length rows
  unfolding clearing short
  clearing-none e = not_found (ltb-true (eligible_supply cutoff rows) need e) (finds no_row (clears cutoff need rows) 0 rows)
