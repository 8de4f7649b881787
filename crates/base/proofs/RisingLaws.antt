-- Laws of numbers by rising number: what inserting does to their order, to who is among them and to how many there are;
-- and their order by places. Assumes nothing.
use Prim.Native.Nat.{ℕ, zero, suc, ◌+◌, ◌≤◌, ◌<◌}
use mathlib.Core.Path.{◌≡◌, refl, sym, ◌∙◌, ap}
use mathlib.Core.Logic.{⊎_elim}
use mathlib.Core.Bool.{Bool, true, false, ◌||◌}
use mathlib.Core.List.{List, [], ◌∷◌}
use native.Mathlib.Omega.{arith}
use native.Mathlib.Nat.{le_of_suc-le-suc, not-suc-le-zero}
use lib.Dec.{eqb}
use lib.ListN.{length, get_or}
use borrow.Author.Tests.{lt-ltb, le-ltb, eq-eqb, ne_eqb}
use Rattle.base.specs.Rising.{inserted, among, RisingFrom, end, next}
use Rattle.base.proofs.Tests.{false-true, lt-or-ge, eq-or-ne}

-- the three ways of inserting before, at or behind the first number
pub inserted-cases :
    (x y : ℕ) (ys : List ℕ) (Q : List ℕ → Type 0) → (x < y → Q (x ∷ y ∷ ys)) → (x ≡ y → Q (y ∷ ys)) →
    (y < x → Q (y ∷ inserted x ys)) → Q (inserted x (y ∷ ys))
unfolding inserted
inserted-cases x y ys Q before at behind = ⊎_elim below not_below (lt-or-ge x y)
  where
    below : x < y → Q (inserted x (y ∷ ys))
    below h = simp (lt-ltb x y h) (before h)

    same : y ≤ x → x ≡ y → Q (inserted x (y ∷ ys))
    same h e = simp (le-ltb x y h, eq-eqb x y e) (at e)

    above : y ≤ x → (x ≡ y → ⊥) → Q (inserted x (y ∷ ys))
    above h e = simp (le-ltb x y h, ne_eqb x y e) (behind (omega arith))

    not_below : y ≤ x → Q (inserted x (y ∷ ys))
    not_below h = ⊎_elim (same h) (above h) (eq-or-ne x y)

pub inserted_rising : {b : ℕ} {ys : List ℕ} (x : ℕ) → b < x → RisingFrom b ys → RisingFrom b (inserted x ys)
unfolding inserted
inserted_rising x h end = next h end
inserted_rising {b} x h (next {x = y} {xs = ys} k r) =
    inserted-cases x y ys (RisingFrom b)
    (λ below. next h (next below r))
    (λ same. next k r)
    (λ above. next k (inserted_rising x above r))

-- a number is among the numbers with one more where it is that one or was among them
pub among-inserted : (x y : ℕ) (ys : List ℕ) → among x (inserted y ys) ≡ (eqb x y || among x ys)
unfolding among inserted
among-inserted x y [] = refl
among-inserted x y (z ∷ ys) =
    inserted-cases y z ys (λ (l : List ℕ). among x l ≡ (eqb x y || (eqb x z || among x ys)))
    (λ below. refl)
    (λ same. rw same (twice (eqb x z) (among x ys)))
    (λ above. rw (among-inserted x y ys) (swapped (eqb x z) (eqb x y) (among x ys)))
  where
    twice : (a b : Bool) → (a || b) ≡ (a || (a || b))
    twice true b = refl
    twice false b = refl

    swapped : (a b c : Bool) → (a || (b || c)) ≡ (b || (a || c))
    swapped true true c = refl
    swapped true false c = refl
    swapped false b c = refl

pub inserted-most : (x : ℕ) (ys : List ℕ) → length (inserted x ys) ≤ length ys + 1
unfolding inserted
inserted-most x [] = omega arith
inserted-most x (y ∷ ys) =
    inserted-cases x y ys (λ (l : List ℕ). length l ≤ suc (length ys) + 1)
    (λ below. omega arith)
    (λ same. omega arith)
    (λ above. omega (arith, inserted-most x ys))

pub inserted-least : (x : ℕ) (ys : List ℕ) → length ys ≤ length (inserted x ys)
unfolding inserted
inserted-least x [] = omega arith
inserted-least x (y ∷ ys) =
    inserted-cases x y ys (λ (l : List ℕ). suc (length ys) ≤ length l)
    (λ below. omega arith)
    (λ same. omega arith)
    (λ above. omega (arith, inserted-least x ys))

-- a number that is not among them makes one more
pub inserted_new : (x : ℕ) (ys : List ℕ) → among x ys ≡ false → length (inserted x ys) ≡ length ys + 1
unfolding inserted among
inserted_new x [] e = refl
inserted_new x (y ∷ ys) e =
    inserted-cases x y ys (λ (l : List ℕ). length l ≡ suc (length ys) + 1)
    (λ below. omega arith)
    (λ same. false-true (sym (rw (eq-eqb x y same) at e)))
    (λ above. omega (arith, inserted_new x ys (rw (ne_eqb x y (omega arith)) at e)))

-- what is at or below the bound is not among them
pub not-among : {b : ℕ} {ys : List ℕ} (x : ℕ) → x ≤ b → RisingFrom b ys → among x ys ≡ false
unfolding among
not-among x h end = refl
not-among x h (next {x = y} k r) = rw (ne_eqb x y (omega arith)) (not-among x (omega arith) r)

-- a number that is among them changes nothing
pub inserted-there : {b : ℕ} {ys : List ℕ} (x : ℕ) → RisingFrom b ys → among x ys ≡ true → inserted x ys ≡ ys
unfolding among
inserted-there x end e = false-true e
inserted-there x (next {x = y} {xs = ys} k r) e =
    inserted-cases x y ys (λ (l : List ℕ). l ≡ y ∷ ys)
    (λ below. false-true (sym (not-among x (omega arith) (next below r)) ∙ e))
    (λ same. refl)
    (λ above. ap (λ (l : List ℕ). y ∷ l) (inserted-there x r (rw (ne_eqb x y (omega arith)) at e)))

-- each number is above the bound, and below every later one
pub rising-above : {b : ℕ} {ys : List ℕ} → RisingFrom b ys → (i : ℕ) → i < length ys → b < get_or ys i 0
rising-above end i h = absurd (not-suc-le-zero h)
rising-above (next k r) zero h = k
rising-above (next k r) (suc i) h = omega (arith, k, rising-above r i (le_of_suc-le-suc h))

pub rising-places :
    {b : ℕ} {ys : List ℕ} → RisingFrom b ys → (i j : ℕ) → i < j → j < length ys → get_or ys i 0 < get_or ys j 0
rising-places end i j h k = absurd (not-suc-le-zero k)
rising-places (next l r) i zero h k = absurd (not-suc-le-zero h)
rising-places (next l r) zero (suc j) h k = rising-above r j (le_of_suc-le-suc k)
rising-places (next l r) (suc i) (suc j) h k = rising-places r i j (le_of_suc-le-suc h) (le_of_suc-le-suc k)
