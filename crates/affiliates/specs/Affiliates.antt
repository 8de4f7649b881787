-- Document 02, F-6: "Section 6.4.1(f)(iii) counts corporate affiliates as one supplier. A study's fifth file .. names a parent
-- for a supplier, and the chain is followed to its head. The head stands in for the supplier in the test". The chain as a
-- reader would say it, and that it is the one followed here, stands in `Chain` and `proofs/ChainLaws`. Assumes nothing.
use Rattle.std.specs.Prelude.{ℕ, zero, suc, Bool, false, ◌||◌, List, [], map, eqb, length, Option, option_map, unwrap_or}
use Rattle.base.specs.Search.{find, first, first_at_odds}
use Rattle.tables.specs.Rows.{SupplyRow, ParentRow}

-- the parent that a supplier is given, none for the head of a chain
unfoldable pub parent_of : List ParentRow → ℕ → Option ℕ
parent_of ps s = option_map (λ (r : ParentRow). r.parent) (find (λ (r : ParentRow). eqb r.supplier s) ps)

-- chains by the parents that suppliers have, each step with one row fewer left to use
module _ (parent : ℕ → Option ℕ) where
  -- where the chain from s ends
  unfoldable pub head_from : ℕ → ℕ → ℕ
  head_from zero s = s
  head_from (suc k) s = unwrap_or (option_map (head_from k) (parent s)) s

  -- whether the chain comes back to s from x
  unfoldable pub comes_back : ℕ → ℕ → ℕ → Bool
  comes_back s zero x = false
  comes_back s (suc k) x = unwrap_or (option_map (λ (p : ℕ). eqb p s || comes_back s k p) (parent x)) false

-- "the chain is followed to its head"
unfoldable pub head : List ParentRow → ℕ → ℕ
head ps s = head_from (parent_of ps) (length ps) s

-- 35: "a supplier given two parents .. the first record that gives a different or repeated parent"
unfoldable pub same_supplier : ParentRow → ParentRow → Bool
same_supplier r e = eqb r.supplier e.supplier

unfoldable pub given_twice : List ParentRow → Option ℕ
given_twice ps = first_at_odds same_supplier [] 1 ps

-- 36: "a chain that returns to its start, a supplier naming itself included .. the first record whose own chain comes back to
-- its supplier"
unfoldable pub returns : List ParentRow → ParentRow → Bool
returns ps r = comes_back (parent_of ps) r.supplier (length ps) r.supplier

unfoldable pub ringed : List ParentRow → Option ℕ
ringed ps = first (returns ps) 1 ps

-- "The head stands in for the supplier in the test": a row with another number for its supplier
unfoldable pub in_place : (ℕ → ℕ) → SupplyRow → SupplyRow
in_place number r =
    record { unit = r.unit; supplier = number r.supplier; mw = r.mw; cost = r.cost; dfax = r.dfax }

unfoldable pub grouped : List ParentRow → List SupplyRow → List SupplyRow
grouped ps rs = map (in_place (head ps)) rs
