-- Laws of supply that is added up by a test, and of effective costs: their order is total, and goes through any row whose
-- |dfax| isn't 0. Assumes nothing.
use Prim.Native.Nat.{ℕ, ◌+◌, ◌*◌, ◌≤◌, ◌<◌}
use mathlib.Core.Path.{◌≡◌, refl}
use mathlib.Core.Logic.{◌⊎◌, inl, inr, ⊎_elim}
use mathlib.Core.Bool.{Bool, true, false, cond}
use mathlib.Core.List.{List, [], ◌∷◌, Memᴰ}
use native.Mathlib.Omega.{arith}
use native.Mathlib.Nat.{mul-le-mul_right, le_of_mul-le-mul_right}
use borrow.Author.Tests.{le-leb, leb-true, lt-ltb, ltb-true}
use Rattle.base.proofs.Tests.{false-true, lt-or-ge}
use Rattle.tables.specs.Rows.{SupplyRow}
use Rattle.offers.specs.Supply.{abs_dfax, supply, total_supply, offer, cost_beside, at_most, below}

-- a supply that counts where a test passes, where another does if the first does and there is a supply
part-le : (s : ℕ) (t u : Bool) → (0 < s → t ≡ true → u ≡ true) → cond t s 0 ≤ cond u s 0
part-le s true true h = omega arith
part-le s true false h = ⊎_elim (λ pos. false-true (h pos refl)) (λ none. none) (lt-or-ge 0 s)
part-le s false true h = omega arith
part-le s false false h = omega arith

module _ (p q : SupplyRow → Bool) where
  -- rows that pass p supply no more than rows that pass q, where whatever passes p and supplies something passes q
  pub supply-within :
      (rows : List SupplyRow) → ((r : SupplyRow) → Memᴰ r rows → 0 < supply r → p r ≡ true → q r ≡ true) →
      total_supply p rows ≤ total_supply q rows
  unfolding total_supply
  supply-within [] h = omega arith
  supply-within (r ∷ rows) h =
      omega (arith, part-le (supply r) (p r) (q r) (h r (Memᴰ.head refl)), supply-within rows (λ x m. h x (Memᴰ.tail m)))

  pub supply-mono :
      (rows : List SupplyRow) → ((r : SupplyRow) → Memᴰ r rows → p r ≡ true → q r ≡ true) →
      total_supply p rows ≤ total_supply q rows
  supply-mono rows h = supply-within rows (λ r m _. h r m)

  -- and the same, where the tests are the same of each row
  pub supply-same :
      (rows : List SupplyRow) → ((r : SupplyRow) → Memᴰ r rows → p r ≡ q r) → total_supply p rows ≡ total_supply q rows
  unfolding total_supply
  supply-same [] h = refl
  supply-same (r ∷ rows) h = rw (h r (Memᴰ.head refl), supply-same rows (λ x m. h x (Memᴰ.tail m)))

-- the supply of rows that pass p and that of rows that pass q are that of rows that pass s, where they are so for each row
pub supply-adds :
    (p q s : SupplyRow → Bool) →
    ((r : SupplyRow) → cond (p r) (supply r) 0 + cond (q r) (supply r) 0 ≡ cond (s r) (supply r) 0) →
    (rows : List SupplyRow) → total_supply p rows + total_supply q rows ≡ total_supply s rows
unfolding total_supply
supply-adds p q s h [] = refl
supply-adds p q s h (r ∷ rows) = omega (arith, h r, supply-adds p q s h rows)

-- nothing is supplied where no row passes
pub supply-none :
    (p : SupplyRow → Bool) (rows : List SupplyRow) → ((r : SupplyRow) → Memᴰ r rows → p r ≡ false) → total_supply p rows ≡ 0
unfolding total_supply
supply-none p [] h = refl
supply-none p (r ∷ rows) h = rw (h r (Memᴰ.head refl), supply-none p rows (λ x m. h x (Memᴰ.tail m)))

-- the cost of r is at or below that of q
unfoldable pub AtMost : SupplyRow → SupplyRow → Type 0
AtMost r q = cost_beside q r ≤ cost_beside r q

pub at-most : (r q : SupplyRow) → AtMost r q → at_most q r ≡ true
unfolding AtMost at_most
at-most r q h = le-leb _ _ h

pub at-most-true : (r q : SupplyRow) → at_most q r ≡ true → AtMost r q
unfolding AtMost at_most
at-most-true r q e = leb-true _ _ e

pub not-below : (r q : SupplyRow) → AtMost q r → below q r ≡ true → ⊥
unfolding AtMost below
not-below r q h e = omega (arith, ltb-true (cost_beside q r) (cost_beside r q) e)

pub below-or-above : (r q : SupplyRow) → (below q r ≡ true) ⊎ AtMost q r
unfolding AtMost below
below-or-above r q = ⊎_elim (λ h. inl (lt-ltb _ _ h)) inr (lt-or-ge (cost_beside q r) (cost_beside r q))

pub one_way : (r q : SupplyRow) → AtMost r q ⊎ AtMost q r
unfolding AtMost
one_way r q = ⊎_elim (λ h. inl (omega arith)) inr (lt-or-ge (cost_beside q r) (cost_beside r q))

-- a / x at most b / y, and b / y at most c / z
crossed : (a b c x y z : ℕ) → 0 < y → a * y ≤ b * x → b * z ≤ c * y → a * z ≤ c * x
crossed a b c x y z pos h k =
    let g : a * z * y ≤ c * x * y = omega (arith, mul-le-mul_right z h, mul-le-mul_right x k) in
    le_of_mul-le-mul_right g pos

pub through : (r s q : SupplyRow) → 0 < abs_dfax s → AtMost r s → AtMost s q → AtMost r q
unfolding AtMost cost_beside
through r s q pos h k = crossed (offer r) (offer s) (offer q) (abs_dfax r) (abs_dfax s) (abs_dfax q) pos h k

-- and so through any row that supplies something
supplies : (r : SupplyRow) → 0 < supply r → 0 < abs_dfax r
unfolding supply
supplies r pos = ⊎_elim (λ h. h) (λ none. absurd (nothing (omega arith))) (lt-or-ge 0 (abs_dfax r))
  where
    nothing : abs_dfax r ≡ 0 → ⊥
    nothing e = let z : 0 < r.mw * 0 = rw e at pos in omega arith

pub through-supply : (r s q : SupplyRow) → 0 < supply s → AtMost r s → AtMost s q → AtMost r q
through-supply r s q pos = through r s q (supplies s pos)
