-- Removals of suppliers that are known by number: to take a place away is to take its supplier's value away, and what a
-- removal leaves is the total over the suppliers that stay. The suppliers are different. Assumes nothing.
use Prim.Native.Nat.{ℕ, zero, suc, ◌<◌}
use mathlib.Core.Path.{◌≡◌, refl, sym, ◌∙◌}
use mathlib.Core.Logic.{◌≢◌}
use mathlib.Core.Bool.{Bool, true, false, cond, ◌||◌}
use mathlib.Core.List.{List, [], ◌∷◌, map}
use native.Mathlib.Omega.{arith}
use lib.Dec.{eqb}
use lib.ListN.{length, get_or, set, length-map}
use borrow.Author.Tests.{eq-eqb, ne_eqb}
use Rattle.pivotal.specs.Test.{total}
use Rattle.pivotal.proofs.Removal.{Removal, alone, with-one, with_two, leaves}
use Rattle.pivotal.proofs.Suppliers.{Absent, Distinct, without, staying, gone}
use Rattle.base.specs.Rising.{among}

without-own : (f : ℕ → ℕ) (k : ℕ) → without f k k ≡ 0
unfolding without
without-own f k = simp (eq-eqb k k refl)

without_other : (f : ℕ → ℕ) (k j : ℕ) → j ≢ k → without f k j ≡ f j
unfolding without
without_other f k j h = simp (ne_eqb j k h)

map-absent : (f : ℕ → ℕ) {k : ℕ} {ks : List ℕ} → Absent k ks → map (without f k) ks ≡ map f ks
map-absent f Absent.none = refl
map-absent f {k} (Absent.more {j} h a) = rw (without_other f k j h, map-absent f a)

absent-at : {k : ℕ} {ks : List ℕ} → Absent k ks → (i : ℕ) → i < length ks → k ≢ get_or ks i 0
absent-at Absent.none i h e = absurd (omega arith)
absent-at (Absent.more n a) zero h e = n (sym e)
absent-at (Absent.more n a) (suc i) h e = absent-at a i (omega arith) e

-- to take a place away is to take its supplier's value away
pub set-without :
    (f : ℕ → ℕ) {ks : List ℕ} → Distinct ks → (i : ℕ) → i < length ks →
    set (map f ks) i 0 ≡ map (without f (get_or ks i 0)) ks
set-without f Distinct.none i h = refl
set-without f (Distinct.more {k} a d) zero h = rw (without-own f k, map-absent f a)
set-without f (Distinct.more {k} {ks} a d) (suc i) h =
    rw (without_other f (get_or ks i 0) k (absent-at a i (omega arith)), set-without f d i (omega arith))

-- one supplier more: j, which is left out by the list (t), or by its number (u), or stays
left_out :
    (t u : Bool) (f g : ℕ → ℕ) (j : ℕ) (a b : List ℕ) → g j ≡ cond u 0 (f j) → total (map g a) ≡ total (map f b) →
    total (map g (cond t a (j ∷ a))) ≡ total (map f (cond (u || t) b (j ∷ b)))
unfolding total
left_out true true f g j a b e h = h
left_out true false f g j a b e h = h
left_out false true f g j a b e h = omega arith
left_out false false f g j a b e h = omega arith

-- to take a supplier's value away is to leave the supplier out
total-without :
    (f : ℕ → ℕ) (k : ℕ) (js ks : List ℕ) →
    total (map (without f k) (staying js ks)) ≡ total (map f (staying (k ∷ js) ks))
unfolding staying among without
total-without f k js [] = refl
total-without f k js (j ∷ ks) =
    left_out (among j js) (eqb j k) f (without f k) j (staying js ks) (staying (k ∷ js) ks) refl (total-without f k js ks)

all_stay : (ks : List ℕ) → staying [] ks ≡ ks
unfolding staying among
all_stay [] = refl
all_stay (k ∷ ks) = rw (all_stay ks)

-- the total once the places of one, two or three suppliers are taken away
module _ {ks : List ℕ} (d : Distinct ks) where
  one-gone :
      (f : ℕ → ℕ) (p : ℕ) → p < length ks → total (set (map f ks) p 0) ≡ total (map f (staying (get_or ks p 0 ∷ []) ks))
  one-gone f p h = rw (set-without f d p h, ← total-without, all_stay)

  two_gone :
      (f : ℕ → ℕ) (p q : ℕ) → p < length ks → q < length ks →
      total (set (set (map f ks) p 0) q 0) ≡ total (map f (staying (get_or ks p 0 ∷ get_or ks q 0 ∷ []) ks))
  two_gone f p q h k = rw (set-without f d p h) (one-gone (without f (get_or ks p 0)) q k ∙ total-without f _ _ ks)

  three-gone :
      (f : ℕ → ℕ) (p q r : ℕ) → p < length ks → q < length ks → r < length ks →
      total (set (set (set (map f ks) p 0) q 0) r 0)
      ≡ total (map f (staying (get_or ks p 0 ∷ get_or ks q 0 ∷ get_or ks r 0 ∷ []) ks))
  three-gone f p q r h k l =
      rw (set-without f d p h) (two_gone (without f (get_or ks p 0)) q r k l ∙ total-without f _ _ ks)

  -- what a removal leaves is the total over the suppliers that stay
  pub leaves-staying :
      (f : ℕ → ℕ) (p : ℕ) → p < length ks → (x : Removal (map f ks) p) → leaves x ≡ total (map f (staying (gone ks x) ks))
  unfolding leaves gone
  leaves-staying f p h alone = one-gone f p h
  leaves-staying f p h (with-one q a _) = two_gone f p q h (rw length-map at a)
  leaves-staying f p h (with_two q r a b _ _ _) = three-gone f p q r h (rw length-map at a) (rw length-map at b)
