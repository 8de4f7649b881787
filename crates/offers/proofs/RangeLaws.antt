-- Laws of rows within the table's ranges: bounds of what is computed of a row and of what is added up, so that sums and
-- products fit. Assumes nothing.
use Prim.Native.Nat.{ℕ, ◌*◌, ◌^◌, ◌≤◌}
use mathlib.Core.Bool.{Bool, true, false, cond}
use mathlib.Core.List.{List, [], ◌∷◌, Memᴰ}
use mathlib.Core.Path.{◌≡◌, refl}
use native.Mathlib.Omega.{arith}
use native.Mathlib.Nat.{mul-le-mul}
use lib.ListN.{length}
use Rattle.tables.specs.Table.{highest_cost}
use Rattle.tables.specs.promises.Ranges.{PermittedSupply}
use Rattle.tables.specs.Rows.{SupplyRow, magnitude}
use Rattle.offers.specs.Supply.{abs_dfax, supply, total_supply, offer, cost_beside}
use Rattle.offers.proofs.OfferLaws.{offer-small}

-- the most that one row supplies
abbrev pub most_supply : ℕ
most_supply = 10 ^ 9

-- the highest cost of a row beside another
abbrev pub most_beside : ℕ
most_beside = highest_cost * 10000

module _ (r : SupplyRow) (p : PermittedSupply r) where
  pub abs-small : abs_dfax r ≤ 10000
  unfolding abs_dfax magnitude
  abs-small = omega (arith, p.dfax)

  pub supply-small : supply r ≤ most_supply
  unfolding supply
  supply-small = mul-le-mul p.mw abs-small

  row-offer-small : offer r ≤ highest_cost
  unfolding offer
  row-offer-small = offer-small r.cost p.cost

beside-most : (q r : SupplyRow) → PermittedSupply q → PermittedSupply r → cost_beside q r ≤ most_beside
unfolding cost_beside
beside-most q r p t = mul-le-mul (row-offer-small r t) (abs-small q p)

pub beside-small : (q r : SupplyRow) (x : ℕ) → PermittedSupply q → PermittedSupply r → x ≡ cost_beside q r → x ≤ most_beside
beside-small q r x p t e = omega (arith, beside-most q r p t)

pub part_small : (t : Bool) (s : ℕ) → s ≤ most_supply → cond t s 0 ≤ most_supply
part_small true s h = h
part_small false s h = omega arith

pub supply-of-small :
    (p : SupplyRow → Bool) (rows : List SupplyRow) → ((r : SupplyRow) → Memᴰ r rows → PermittedSupply r) →
    total_supply p rows ≤ length rows * most_supply
unfolding total_supply
supply-of-small p [] h = omega arith
supply-of-small p (r ∷ rows) h =
    omega
    (arith, part_small (p r) (supply r) (supply-small r (h r (Memᴰ.head refl))), supply-of-small p rows (λ s m. h s (Memᴰ.tail m)))
