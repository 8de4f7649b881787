-- The test over rows, as demand 3 has it: what is left at a party's place in the amounts is the least that a removal of that
-- party leaves of the relevant rows. So the party is pivotal exactly when some removal leaves less than the need.
-- Assumes nothing.
use Prim.Native.Nat.{ℕ, ◌≤◌, ◌<◌}
use mathlib.Core.Path.{◌≡◌, refl, sym, ◌∙◌}
use mathlib.Core.Logic.{◌≢◌, ◌↔◌}
use mathlib.Core.Bool.{true}
use mathlib.Core.List.{List}
use native.Mathlib.Omega.{arith}
use lib.ListN.{length, get_or, length-map}
use borrow.Author.Tests.{ltb-true, lt-ltb}
use Rattle.base.proofs.Members.{member-at, place_of}
use Rattle.tables.specs.Rows.{SupplyRow}
use Rattle.pivotal.specs.Test.{left, pivotal}
use Rattle.pivotal.proofs.Removal.{Removal, leaves}
use Rattle.pivotal.proofs.Suppliers.{gone}
use Rattle.pivotal.proofs.Least.{least, attained}
use Rattle.pivotal.proofs.Numbered.{leaves-staying}
use Rattle.market.specs.Parties.{parties, amount_of, amounts}
use Rattle.market.specs.Removals.{PartyOf, Removes, remaining}
use Rattle.market.proofs.DistinctLaws.{distinct-places}
use Rattle.market.proofs.PartyLaws.{parties-distinct, party-member, member-party, remaining-staying}

-- a party of the rows has a place
pub party-place :
    (rows : List SupplyRow) (k : ℕ) → PartyOf rows k → (p : ℕ) × (p < length (parties rows)) × (get_or (parties rows) p 0 ≡ k)
party-place rows k a = place_of 0 (party-member rows a)

module _ (cutoff : ℕ) (q : SupplyRow) (rows : List SupplyRow) (p : ℕ) (h : p < length (parties rows)) where
  -- the party at another place is another party of the rows
  other-party : (i : ℕ) → i < length (amounts cutoff q rows) → PartyOf rows (get_or (parties rows) i 0)
  unfolding amounts
  other-party i a = member-party rows (member-at 0 (parties rows) i (rw length-map at a))

  differs :
      (i j : ℕ) → i < length (amounts cutoff q rows) → j < length (amounts cutoff q rows) → i ≢ j →
      get_or (parties rows) i 0 ≢ get_or (parties rows) j 0
  unfolding amounts
  differs i j a b n e = n (distinct-places (parties-distinct rows) i j (rw length-map at a) (rw length-map at b) e)

  placed : (i : ℕ) → i < length (parties rows) → i < length (amounts cutoff q rows)
  unfolding amounts
  placed i a = rw length-map a

  -- a removal by place is a removal of parties
  removes : (x : Removal (amounts cutoff q rows) p) → Removes rows (get_or (parties rows) p 0) (gone (parties rows) x)
  unfolding gone
  removes Removal.alone = Removes.alone
  removes (Removal.with-one i a n) = Removes.with-one _ (other-party i a) (differs i p a (placed p h) n)
  removes (Removal.with_two i j a b n m o) =
      Removes.with_two _ _ (other-party i a) (other-party j b) (differs i p a (placed p h) n) (differs j p b (placed p h) m) (differs i j a b o)

  -- and what it leaves is what stays of the relevant rows
  leaves-rows : (x : Removal (amounts cutoff q rows) p) → leaves x ≡ remaining cutoff q (gone (parties rows) x) rows
  unfolding amounts
  leaves-rows x =
      leaves-staying (parties-distinct rows) (amount_of cutoff q rows) p h x
      ∙ sym (remaining-staying cutoff q (gone (parties rows) x) rows)

  -- different parties have different places
  apart : (k l : ℕ) {i j : ℕ} → get_or (parties rows) k 0 ≡ i → get_or (parties rows) l 0 ≡ j → i ≢ j → k ≢ l
  apart k l e f n g = n (sym e ∙ rw g f)

  -- a removal of parties is one by place
  by_place :
      {taken : List ℕ} → Removes rows (get_or (parties rows) p 0) taken →
      (x : Removal (amounts cutoff q rows) p) × (gone (parties rows) x ≡ taken)
  unfolding gone
  by_place Removes.alone = (Removal.alone, refl)
  by_place (Removes.with-one i a n) =
      let (k, c, e) = party-place rows i a in
      (Removal.with-one k (placed k c) (apart k p e refl n), rw e)
  by_place (Removes.with_two i j a b n m o) =
      let (k, c, e) = party-place rows i a in
      let (l, d, f) = party-place rows j b in
      (Removal.with_two k l (placed k c) (placed l d) (apart k p e refl n) (apart l p f refl m) (apart k l e f o), rw (e, f))

  -- every removal of the party leaves at least left of the relevant rows
  pub least-over-rows :
      (taken : List ℕ) → Removes rows (get_or (parties rows) p 0) taken →
      left (amounts cutoff q rows) p ≤ remaining cutoff q taken rows
  least-over-rows taken r =
      let (x, e) = by_place r in
      rw (← e) (omega (arith, least (amounts cutoff q rows) p x, leaves-rows x))

  -- and some removal leaves exactly left
  pub attained-over-rows :
      (taken : List ℕ) × Removes rows (get_or (parties rows) p 0) taken × (remaining cutoff q taken rows ≡ left (amounts cutoff q rows) p)
  attained-over-rows =
      let (x, e) = attained (amounts cutoff q rows) p in
      (gone (parties rows) x, removes x, sym (leaves-rows x) ∙ e)

  -- the party is pivotal exactly when some removal of it leaves less than the need
  pub pivotal-over-rows :
      (need : ℕ) →
      (pivotal (left (amounts cutoff q rows) p) need ≡ true)
      ↔ ((taken : List ℕ) × Removes rows (get_or (parties rows) p 0) taken × (remaining cutoff q taken rows < need))
  unfolding pivotal
  pivotal-over-rows need = (
    λ e.
        let (taken, r, f) = attained-over-rows in
        (taken, r, omega (arith, ltb-true (left (amounts cutoff q rows) p) need e)),
    λ x. lt-ltb (left (amounts cutoff q rows) p) need (omega (arith, least-over-rows x.0 x.1, x.2)),
  )
