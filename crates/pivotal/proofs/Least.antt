-- Left is the least that a removal leaves, over amounts of any number and any place: some removal leaves just that, and
-- none leaves less. So a supplier is pivotal exactly when some removal of it leaves less than the need. Assumes nothing.
use Prim.Native.Nat.{ℕ, ◌+◌, ◌-◌, ◌≤◌, ◌<◌}
use mathlib.Core.Path.{◌≡◌, refl}
use mathlib.Core.Logic.{◌≢◌, ⊎_elim, ◌↔◌}
use mathlib.Core.Bool.{true}
use mathlib.Core.List.{List}
use native.Mathlib.Omega.{arith}
use lib.ListN.{length, get_or, set, length-set, get_or-eq_default}
use borrow.Author.Tests.{ltb-true, lt-ltb}
use Rattle.base.proofs.Tests.{lt-or-ge, eq-or-ne}
use Rattle.pivotal.specs.Test.{total, left, pivotal}
use Rattle.pivotal.proofs.Removal.{Removal, alone, with-one, with_two, leaves}
use Rattle.pivotal.proofs.Amounts.{both, largest_two, largest-one, largest-two, largest-places, total-set, total-set-two, set-gone}

module _ (s : List ℕ) (p : ℕ) where
  left-takes : left s p ≡ total (set s p 0) - largest_two (set s p 0)
  unfolding left largest_two both
  left-takes = refl

  -- no removal leaves less than left
  pub least : (r : Removal s p) → left s p ≤ leaves r
  unfolding leaves
  least alone = omega (arith, left-takes)
  least (with-one q _ _) = omega (arith, left-takes, total-set (set s p 0) q, largest-one (set s p 0) q)
  least (with_two q r _ _ _ _ h) =
      omega (arith, left-takes, total-set-two (set s p 0) q r h, largest-two (set s p 0) q r h)

  -- a place is another, or nothing is left in it
  data Place (q : ℕ) : Type 0 where
    other : q < length s → q ≢ p → Place q
    nothing : get_or (set s p 0) q 0 ≡ 0 → Place q

  place : (q : ℕ) → Place q
  place q = ⊎_elim (λ h. ⊎_elim own (other h) (eq-or-ne q p)) past (lt-or-ge q (length s))
    where
      own : q ≡ p → Place q
      own e = nothing (rw e (set-gone s p))

      past : length s ≤ q → Place q
      past h = nothing (get_or-eq_default (set s p 0) 0 (omega (arith, length-set s p 0)))

  -- the removal of the two places that hold the two largest
  removal :
      (q r : ℕ) → q ≢ r → largest_two (set s p 0) ≡ get_or (set s p 0) q 0 + get_or (set s p 0) r 0 → Place q → Place r →
      (x : Removal s p) × (leaves x ≡ left s p)
  unfolding leaves
  removal q r h e (other a b) (other a' b') =
      (with_two q r a a' b b' h, omega (arith, left-takes, total-set-two (set s p 0) q r h))
  removal q r h e (other a b) (nothing z) = (with-one q a b, omega (arith, left-takes, total-set (set s p 0) q))
  removal q r h e (nothing z) (other a b) = (with-one r a b, omega (arith, left-takes, total-set (set s p 0) r))
  removal q r h e (nothing z) (nothing z') = (alone, omega (arith, left-takes))

  -- and some removal leaves just left
  pub attained : (x : Removal s p) × (leaves x ≡ left s p)
  attained =
      let (q, r, h, e) = largest-places (set s p 0) in
      removal q r h e (place q) (place r)

  -- a supplier is pivotal exactly when some removal of it leaves less than the need
  pub pivotal-exactly : (need : ℕ) → (pivotal (left s p) need ≡ true) ↔ ((x : Removal s p) × (leaves x < need))
  unfolding pivotal
  pivotal-exactly need = (
    λ e. (attained.0, omega (arith, attained.1, ltb-true (left s p) need e)),
    λ x. lt-ltb (left s p) need (omega (arith, least x.0, x.1)),
  )
