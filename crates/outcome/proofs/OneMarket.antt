-- All clearing rows have one cost, so what is relevant, and what a removal leaves of it, is the same by whichever of them it
-- is told. A cutoff is at least 1, as the table has it. Assumes nothing.
use Prim.Native.Nat.{ℕ, ◌*◌, ◌≤◌, ◌<◌}
use mathlib.Core.Path.{◌≡◌}
use mathlib.Core.Bool.{true}
use mathlib.Core.List.{List}
use native.Mathlib.Omega.{arith}
use native.Mathlib.Nat.{mul-le-mul_right, le_of_mul-le-mul_right}
use borrow.Author.Tests.{le-leb, leb-true}
use Rattle.base.proofs.Tests.{and-fst, and-snd}
use Rattle.tables.specs.Rows.{SupplyRow}
use Rattle.market.specs.Clearing.{Clears}
use Rattle.offers.specs.Relevant.{relevant}
use Rattle.market.specs.Removals.{relevant_without, remaining}
use Rattle.offers.specs.Supply.{abs_dfax, eligible, offer, cost_beside, at_most}
use Rattle.market.proofs.ClearingLaws.{clears-once}
use Rattle.offers.proofs.SupplyLaws.{supply-same}
use Rattle.base.proofs.SearchLaws.{same_test}

-- o / z at most three halves of a / x, which is at most b / y
carried : (o a b x y z : ℕ) → 0 < x → a * y ≤ b * x → 2 * (o * x) ≤ 3 * (a * z) → 2 * (o * y) ≤ 3 * (b * z)
carried o a b x y z pos h k =
    let g : 2 * (o * y) * x ≤ 3 * (b * z) * x = omega (arith, mul-le-mul_right y k, mul-le-mul_right (3 * z) h) in
    le_of_mul-le-mul_right g pos

module _ (cutoff need : ℕ) (rows : List SupplyRow) (positive : 0 < cutoff) where
  also-relevant :
      (q s : SupplyRow) → Clears cutoff need rows q → Clears cutoff need rows s → (r : SupplyRow) →
      relevant cutoff q r ≡ true → relevant cutoff s r ≡ true
  unfolding relevant cost_beside at_most
  also-relevant q s c d r e =
      let within : 2 * (offer r * abs_dfax q) ≤ 3 * (offer q * abs_dfax r) = leb-true _ _ (and-snd (eligible cutoff r) _ e) in
      let once = clears-once cutoff need rows positive s q d c in
      let no-dearer : offer q * abs_dfax s ≤ offer s * abs_dfax q = leb-true _ _ once in
      let some-dfax : 0 < abs_dfax q = omega (arith, c.is-eligible) in
      let also = carried (offer r) (offer q) (offer s) (abs_dfax q) (abs_dfax s) (abs_dfax r) some-dfax no-dearer within in
      simp (and-fst (eligible cutoff r) _ e, le-leb _ _ also)

  module _ (q s : SupplyRow) (c : Clears cutoff need rows q) (d : Clears cutoff need rows s) where
    pub relevant-same : (r : SupplyRow) → relevant cutoff q r ≡ relevant cutoff s r
    relevant-same r = same_test _ _ (also-relevant q s c d r) (also-relevant s q d c r)

    pub remaining-same : (taken : List ℕ) → remaining cutoff q taken rows ≡ remaining cutoff s taken rows
    unfolding remaining relevant_without
    remaining-same taken =
        supply-same (relevant_without cutoff q taken) (relevant_without cutoff s taken) rows (λ r m. rw (relevant-same r))
