-- Rows by groups keep what rows keep: their units, that they agree, their ranges, and no more groups than suppliers. Assumes
-- nothing.
use Rattle.std.specs.Prelude.{None, Option, Some, option_map, unwrap_or}
use Prim.Native.Nat.{ℕ, zero, suc, ◌≤◌}
use mathlib.Core.Path.{◌≡◌, refl, sym, ◌∙◌, ap, subst}
use mathlib.Core.Logic.{⊎_elim}
use mathlib.Core.Bool.{Bool, true, false, not, ◌&&◌, ◌||◌, or-true}
use mathlib.Core.List.{List, [], ◌∷◌, map}
use native.Mathlib.Omega.{arith}
use lib.Dec.{eqb}
use lib.ListN.{length}
use borrow.Author.Tests.{eq-eqb, ne_eqb, eqb-true}
use Rattle.base.specs.Rising.{inserted, among, next}
use Rattle.base.specs.Search.{any, first_at_odds, All, all_none, all_more}
use Rattle.base.proofs.Elements.{all-mem}
use Rattle.base.proofs.RisingLaws.{inserted-cases, inserted-there, inserted_new, inserted-most, inserted-least, among-inserted, not-among}
use Rattle.base.proofs.SearchLaws.{odds-none}
use Rattle.base.proofs.Tests.{false-true, either, eq-or-ne, or_fst, or_snd}
use Rattle.numbers.specs.Numbers.{numbers_from, numbers_of}
use Rattle.numbers.proofs.NumberLaws.{Rises, Rises.nothing, Rises.from, inserted-rises}
use Rattle.supply.specs.Supply.{units, suppliers, supply_odds, supply_at_odds}
use Rattle.tables.specs.promises.Ranges.{PermittedSupply, PermittedParent}
use Rattle.tables.specs.Rows.{SupplyRow, ParentRow}
use Rattle.tables.specs.Table.{highest_supplier}
use Rattle.affiliates.specs.Affiliates.{parent_of, head_from, head, in_place, grouped}
use Rattle.affiliates.proofs.ChainLaws.{names}

-- with no parents each row stands for its own supplier
pub no-parents : (rs : List SupplyRow) → grouped [] rs ≡ rs
unfolding grouped in_place head head_from
no-parents [] = refl
no-parents (r ∷ rs) = ap (λ (l : List SupplyRow). r ∷ l) (no-parents rs)

-- whatever stands in for suppliers
module _ (number : ℕ → ℕ) where
  same_units :
      (us : List ℕ) (rs : List SupplyRow) →
      numbers_from (λ (r : SupplyRow). r.unit) us (map (in_place number) rs) ≡ numbers_from (λ (r : SupplyRow). r.unit) us rs
  unfolding numbers_from in_place
  same_units us [] = refl
  same_units us (r ∷ rs) = same_units (inserted r.unit us) rs

  -- rows that are not at odds stay so: suppliers that were the same still are
  same-odds : (r e : SupplyRow) → supply_odds r e ≡ false → supply_odds (in_place number r) (in_place number e) ≡ false
  unfolding supply_odds in_place
  same-odds r e f =
      go (eqb r.unit e.unit) (eqb r.supplier e.supplier) (eqb (number r.supplier) (number e.supplier))
      (eqb r.dfax e.dfax) (λ t. eq-eqb _ _ (ap number (eqb-true r.supplier e.supplier t))) f
    where
      go :
          (unit before now dfax : Bool) → (before ≡ true → now ≡ true) → (unit && not (before && dfax)) ≡ false →
          (unit && not (now && dfax)) ≡ false
      go false before now dfax h f = refl
      go true true now dfax h f = rw (h refl) f
      go true false now dfax h f = false-true (sym f)

  none-odds :
      (r : SupplyRow) (seen : List SupplyRow) → any (supply_odds r) seen ≡ false →
      any (supply_odds (in_place number r)) (map (in_place number) seen) ≡ false
  unfolding any
  none-odds r [] f = refl
  none-odds r (e ∷ es) f =
      rw (same-odds r e (or_fst _ (any (supply_odds r) es) f)) (none-odds r es (or_snd (supply_odds r e) _ f))

  still-agree :
      (seen : List SupplyRow) (k : ℕ) (rs : List SupplyRow) → first_at_odds supply_odds seen k rs ≡ None →
      first_at_odds supply_odds (map (in_place number) seen) k (map (in_place number) rs) ≡ None
  unfolding first_at_odds
  still-agree seen k [] f = refl
  still-agree seen k (r ∷ rs) f =
      let (alone, others) = odds-none supply_odds seen k r rs f in
      rw (none-odds r seen alone) (still-agree (r ∷ seen) (suc k) rs others)

-- a unit counts once, in a group or not
pub grouped-units : (ps : List ParentRow) (rs : List SupplyRow) → units (grouped ps rs) ≡ units rs
unfolding units numbers_of grouped
grouped-units ps rs = same_units (head ps) [] rs

-- "Rows of one unit share supplier and dfax."
pub grouped-agree : (ps : List ParentRow) (rs : List SupplyRow) → supply_at_odds rs ≡ None → supply_at_odds (grouped ps rs) ≡ None
unfolding supply_at_odds grouped
grouped-agree ps rs f = still-agree (head ps) [] 1 rs f

-- heads are within the range of suppliers
abbrev Ranged : ℕ → Type 0
Ranged s = (1 ≤ s) × (s ≤ highest_supplier)

module _ {ps : List ParentRow} (permitted : All PermittedParent ps) where
  parent-ranged : (s : ℕ) {p : ℕ} → parent_of ps s ≡ Some p → Ranged p
  parent-ranged s e =
      let named = names e in
      let row = all-mem permitted named.a-row in
      subst Ranged named.its-parent (row.some-parent, row.parent)

  from-ranged : (k s : ℕ) → Ranged s → Ranged (head_from (parent_of ps) k s)
  unfolding head_from
  from-ranged zero s h = h
  from-ranged (suc k) s h = go (parent_of ps s) refl (from-ranged k)
    where
      go :
          (o : Option ℕ) → parent_of ps s ≡ o → ((p : ℕ) → Ranged p → Ranged (head_from (parent_of ps) k p)) →
          Ranged (unwrap_or (option_map (head_from (parent_of ps) k) o) s)
      go None e more = h
      go (Some p) e more = more p (parent-ranged s e)

  pub head-ranged : {s : ℕ} → 1 ≤ s → s ≤ highest_supplier → (1 ≤ head ps s) × (head ps s ≤ highest_supplier)
  unfolding head
  head-ranged {s} h k = from-ranged (length ps) s (h, k)

  pub grouped-permitted : {rs : List SupplyRow} → All PermittedSupply rs → All PermittedSupply (grouped ps rs)
  unfolding grouped in_place
  grouped-permitted all_none = all_none
  grouped-permitted (all_more p a) =
      let (low, high) = head-ranged p.some-supplier p.supplier in
      all_more
      (record {
        some-unit = p.some-unit;
        unit = p.unit;
        some-supplier = low;
        supplier = high;
        some-mw = p.some-mw;
        mw = p.mw;
        cost = p.cost;
        dfax = p.dfax;
      })
      (grouped-permitted a)

inserted-known : {ys : List ℕ} (y : ℕ) → Rises ys → among y ys ≡ true → inserted y ys ≡ ys
unfolding among
inserted-known y nothing e = false-true e
inserted-known y (from {x = x} {xs = xs} r) e =
    inserted-cases y x xs (λ (l : List ℕ). l ≡ x ∷ xs)
    (λ below. false-true (sym (not-among y (omega arith) (next below r)) ∙ e))
    (λ same. refl)
    (λ above. ap (λ (l : List ℕ). x ∷ l) (inserted-there y r (rw (ne_eqb y x (omega arith)) at e)))

module _ (number : ℕ → ℕ) where
  -- no more numbers ys than xs, and among them the one that stands in for each of xs
  record Numbered (xs ys : List ℕ) : Type 0 where
    few : length ys ≤ length xs
    rises : Rises ys
    has_one : (x : ℕ) → among x xs ≡ true → among (number x) ys ≡ true

  numbered-none : Numbered [] []
  unfolding among
  numbered-none = record { few = omega arith; rises = nothing; has_one = λ x e. false-true e }

  numbered_more : (x : ℕ) {xs ys : List ℕ} → Numbered xs ys → Numbered (inserted x xs) (inserted (number x) ys)
  numbered_more x {xs} {ys} n =
      record {
        few = ⊎_elim known new (either (among x xs));
        rises = inserted-rises (number x) n.rises;
        has_one = λ z e. rw (among-inserted (number z) (number x) ys) (also z (rw (among-inserted z x xs) at e));
      }
    where
      known : among x xs ≡ true → length (inserted (number x) ys) ≤ length (inserted x xs)
      known e = rw (inserted-known (number x) n.rises (n.has_one x e)) (omega (arith, n.few, inserted-least x xs))

      new : among x xs ≡ false → length (inserted (number x) ys) ≤ length (inserted x xs)
      new e = omega (arith, n.few, inserted_new x xs e, inserted-most (number x) ys)

      also : (z : ℕ) → (eqb z x || among z xs) ≡ true → (eqb (number z) (number x) || among (number z) ys) ≡ true
      also z e = ⊎_elim same other (eq-or-ne z x)
        where
          same : z ≡ x → (eqb (number z) (number x) || among (number z) ys) ≡ true
          same f = rw (eq-eqb (number z) (number x) (ap number f))

          other : (z ≡ x → ⊥) → (eqb (number z) (number x) || among (number z) ys) ≡ true
          other f = rw (n.has_one z (rw (ne_eqb z x f) at e)) (or-true (eqb (number z) (number x)))

  numbered-from :
      (rs : List SupplyRow) {xs ys : List ℕ} → Numbered xs ys →
      Numbered (numbers_from (λ (r : SupplyRow). r.supplier) xs rs)
      (numbers_from (λ (r : SupplyRow). r.supplier) ys (map (in_place number) rs))
  unfolding numbers_from in_place
  numbered-from [] n = n
  numbered-from (r ∷ rs) n = numbered-from rs (numbered_more r.supplier n)

-- a group for each supplier at most
pub groups-few :
    (ps : List ParentRow) (rs : List SupplyRow) →
    length (numbers_of (λ (r : SupplyRow). r.supplier) (grouped ps rs)) ≤ length (suppliers rs)
unfolding numbers_of suppliers grouped
groups-few ps rs = (numbered-from (head ps) rs (numbered-none (head ps))).few
