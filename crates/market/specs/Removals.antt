-- Removals over rows, as demand 3 has them: "A removal takes away the row's supplier together with none, one or two other
-- suppliers." That the test's left is the least that one leaves is shown in `proofs/LeastOverRows`. Assumes nothing.
use Rattle.std.specs.Prelude.{ℕ, ◌≡◌, ◌≢◌, Bool, ◌&&◌, not}
use mathlib.Core.List.{List, [], ◌∷◌, Memᴰ}
use Rattle.tables.specs.Rows.{SupplyRow}
use Rattle.base.specs.Rising.{among}
use Rattle.offers.specs.Supply.{total_supply}
use Rattle.offers.specs.Relevant.{relevant}
use Rattle.market.specs.Parties.{party}

-- some row's supply counts for k
pub record PartyOf (rows : List SupplyRow) (k : ℕ) : Type 0 where
  pub row : SupplyRow
  pub a-row : Memᴰ row rows
  pub its-party : party row ≡ k

-- the parties that a removal of k takes away: it alone, or with one or two other parties of the rows
pub data Removes (rows : List SupplyRow) (k : ℕ) : List ℕ → Type 0 where
  alone : Removes rows k (k ∷ [])
  with-one : (i : ℕ) → PartyOf rows i → i ≢ k → Removes rows k (k ∷ i ∷ [])
  with_two : (i j : ℕ) → PartyOf rows i → PartyOf rows j → i ≢ k → j ≢ k → i ≢ j → Removes rows k (k ∷ i ∷ j ∷ [])

-- whether the row r is relevant and stays, where the row q clears and the parties ks are taken away
unfoldable pub relevant_without : ℕ → SupplyRow → List ℕ → SupplyRow → Bool
relevant_without cutoff q ks r = relevant cutoff q r && not (among (party r) ks)

-- "What a removal leaves, in demand 3, is the effective supply, added up, of the relevant rows of every supplier not
-- removed."
unfoldable pub remaining : ℕ → SupplyRow → List ℕ → List SupplyRow → ℕ
remaining cutoff q ks rows = total_supply (relevant_without cutoff q ks) rows
