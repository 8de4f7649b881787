-- Laws of the capped offer, over all numbers: what it is up to the ceiling and above it, and that a larger cost never has a smaller
-- one. Assumes nothing.
use Prim.Native.Nat.{ℕ, ◌≤◌, ◌<◌}
use mathlib.Core.Bool.{Bool, true, false, cond}
use mathlib.Core.Path.{◌≡◌, refl}
use native.Mathlib.Omega.{arith}
use lib.Dec.{ltb}
use borrow.Author.Tests.{ltb-true, ltb-false, lt-ltb, le-ltb}
use Rattle.tables.specs.Table.{highest_cost}
use Rattle.offers.specs.Offer.{ceiling, with_adder, capped}

module _ (c : ℕ) where
  pub offer-with-adder : c ≤ ceiling → capped c ≡ with_adder c
  unfolding capped
  offer-with-adder h = simp (le-ltb ceiling c h)

  pub offer-alone : ceiling < c → capped c ≡ c
  unfolding capped
  offer-alone h = simp (lt-ltb ceiling c h)

-- "a larger cost never has a smaller capped offer"
pub offer-rises : (a b : ℕ) → a ≤ b → capped a ≤ capped b
unfolding capped with_adder
offer-rises a b h = go (ltb ceiling a) (ltb ceiling b) refl refl
  where
    go : (s t : Bool) → ltb ceiling a ≡ s → ltb ceiling b ≡ t → cond s a (with_adder a) ≤ cond t b (with_adder b)
    go true true e f = h
    go true false e f = absurd (omega (arith, ltb-true ceiling a e, ltb-false ceiling b f))
    go false true e f = omega (arith, ltb-true ceiling b f)
    go false false e f = omega arith

-- so the offer of a cost that the table permits is at most the highest of these
pub offer-small : (c : ℕ) → c ≤ highest_cost → capped c ≤ highest_cost
offer-small c h = omega (arith, offer-rises c highest_cost h, offer-alone highest_cost (omega arith))
