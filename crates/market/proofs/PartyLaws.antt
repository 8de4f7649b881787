-- Laws of the parties of some rows and of their amounts: the parties are different, they are just the rows' own, and what
-- stays of the relevant rows when parties are taken away is the total of the amounts of those that stay. Assumes nothing.
use Prim.Native.Nat.{ℕ, ◌+◌}
use mathlib.Core.Path.{◌≡◌, refl, sym, ◌∙◌}
use mathlib.Core.Logic.{⊎_elim}
use mathlib.Core.Bool.{Bool, true, false, cond, ◌&&◌, ◌||◌, and-false}
use mathlib.Core.List.{List, [], ◌∷◌, map, Memᴰ}
use native.Mathlib.Omega.{arith}
use lib.Dec.{eqb}
use borrow.Author.Tests.{eqb-true, eq-eqb}
use Rattle.base.proofs.Tests.{false-true, either}
use Rattle.tables.specs.Rows.{SupplyRow}
use Rattle.pivotal.specs.Test.{total}
use Rattle.pivotal.proofs.Suppliers.{Distinct, staying}
use Rattle.base.specs.Rising.{among}
use Rattle.base.specs.Search.{any}
use Rattle.base.proofs.Elements.{any-mem, none-mem}
use Rattle.numbers.proofs.NumberLaws.{numbers-rise, among-numbers}
use Rattle.offers.specs.Supply.{supply, total_supply}
use Rattle.offers.specs.Relevant.{relevant}
use Rattle.market.specs.Parties.{party, parties, relevant_of, amount_of}
use Rattle.market.specs.Removals.{PartyOf, relevant_without, remaining}
use Rattle.offers.proofs.SupplyLaws.{supply-adds, supply-same, supply-none}
use Rattle.market.proofs.DistinctLaws.{
  among-member,
  among-absent,
  among-staying,
  member-among,
  rises-distinct,
  distinct-staying,
}

-- a row that passes a test is found
mem-any : (p : SupplyRow → Bool) (rows : List SupplyRow) (r : SupplyRow) → Memᴰ r rows → p r ≡ true → any p rows ≡ true
mem-any p rows r m e = ⊎_elim (λ f. f) (λ f. false-true (sym (none-mem p rows r f m) ∙ e)) (either (any p rows))

module _ (rows : List SupplyRow) where
  pub parties-distinct : Distinct (parties rows)
  unfolding parties
  parties-distinct = rises-distinct (numbers-rise party rows)

  among-parties : (k : ℕ) → among k (parties rows) ≡ any (λ (r : SupplyRow). eqb (party r) k) rows
  unfolding parties
  among-parties k = among-numbers party k rows

  -- the parties are just the rows' own
  pub party-member : {k : ℕ} → PartyOf rows k → Memᴰ k (parties rows)
  party-member {k} p =
      member-among k (parties rows)
      (among-parties k ∙ mem-any (λ (r : SupplyRow). eqb (party r) k) rows p.row p.a-row (eq-eqb (party p.row) k p.its-party))

  pub member-party : {k : ℕ} → Memᴰ k (parties rows) → PartyOf rows k
  member-party {k} m =
      let (r, a, e) = any-mem (λ (r : SupplyRow). eqb (party r) k) rows (sym (among-parties k) ∙ among-member m) in
      record { row = r; a-row = a; its-party = eqb-true (party r) k e }

module _ (cutoff : ℕ) (q : SupplyRow) where
  -- whether the row r is relevant and its party one of ks
  relevant_among : List ℕ → SupplyRow → Bool
  relevant_among ks r = relevant cutoff q r && among (party r) ks

  -- a row counts for one party alone
  counts-once :
      (t u v : Bool) (s : ℕ) → (u ≡ true → v ≡ false) → cond (t && u) s 0 + cond (t && v) s 0 ≡ cond (t && (u || v)) s 0
  counts-once true true true s h = false-true (sym (h refl))
  counts-once true true false s h = omega arith
  counts-once true false v s h = omega arith
  counts-once false u v s h = omega arith

  -- the amounts of different parties are the supply of the relevant rows of those parties
  amounts-among :
      (rows : List SupplyRow) {ks : List ℕ} → Distinct ks →
      total (map (amount_of cutoff q rows) ks) ≡ total_supply (relevant_among ks) rows
  unfolding total relevant_among among amount_of relevant_of
  amounts-among rows Distinct.none = sym (supply-none (relevant_among []) rows (λ r m. and-false (relevant cutoff q r)))
  amounts-among rows (Distinct.more {k} {ks} a d) =
      rw (amounts-among rows d)
      (supply-adds (relevant_of cutoff q k) (relevant_among ks) (relevant_among (k ∷ ks))
      (λ r. counts-once (relevant cutoff q r) (eqb (party r) k) (among (party r) ks) (supply r) (λ e. rw (eqb-true (party r) k e) (among-absent a)))
      rows)

  -- what stays of the relevant rows when parties are taken away is the total of the amounts of those that stay
  pub remaining-staying :
      (gone : List ℕ) (rows : List SupplyRow) →
      remaining cutoff q gone rows ≡ total (map (amount_of cutoff q rows) (staying gone (parties rows)))
  unfolding remaining relevant_without relevant_among
  remaining-staying gone rows =
      supply-same (relevant_without cutoff q gone) (relevant_among (staying gone (parties rows))) rows same
      ∙ sym (amounts-among rows (distinct-staying gone (parties-distinct rows)))
    where
      same :
          (r : SupplyRow) → Memᴰ r rows →
          relevant_without cutoff q gone r ≡ relevant_among (staying gone (parties rows)) r
      same r m =
          let its : PartyOf rows (party r) = record { row = r; a-row = m; its-party = refl } in
          simp (among-staying (party r) gone (parties rows), among-member (party-member rows its))
