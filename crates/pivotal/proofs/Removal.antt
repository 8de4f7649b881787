-- What the pivotal test is for: a supplier and at most two others taken away, and what is left of the amounts then.
-- Demand 3 speaks of removals; that `left` is the least that one leaves is shown in `proofs/Least`. Assumes nothing.
use Prim.Native.Nat.{ℕ, ◌<◌}
use mathlib.Core.Logic.{◌≢◌}
use mathlib.Core.List.{List}
use lib.ListN.{length, set}
use Rattle.pivotal.specs.Test.{total}

-- a removal takes away the place p of the amounts s together with none, one or two others
pub data Removal (s : List ℕ) (p : ℕ) : Type 0 where
  alone : Removal s p
  with-one : (q : ℕ) → q < length s → q ≢ p → Removal s p
  with_two : (q r : ℕ) → q < length s → r < length s → q ≢ p → r ≢ p → q ≢ r → Removal s p

-- what a removal leaves: the total of the amounts with 0 in the places taken away
unfoldable pub leaves : {s : List ℕ} {p : ℕ} → Removal s p → ℕ
leaves {s} {p} alone = total (set s p 0)
leaves {s} {p} (with-one q _ _) = total (set (set s p 0) q 0)
leaves {s} {p} (with_two q r _ _ _ _ _) = total (set (set (set s p 0) q 0) r 0)
