-- Laws of lists of different numbers: of the test whether a number is among them, that rising numbers are different, and of
-- those that stay when some are taken away. Assumes nothing.
use Prim.Native.Nat.{ℕ, zero, suc, ◌<◌}
use mathlib.Core.Path.{◌≡◌, refl, sym, ◌∙◌, ap}
use mathlib.Core.Bool.{Bool, true, false, cond, ◌&&◌, ◌||◌, not, and-false}
use mathlib.Core.List.Memᴰ
use mathlib.Core.List.{List, [], ◌∷◌, Memᴰ}
use native.Mathlib.Omega.{arith}
use lib.Dec.{eqb}
use lib.ListN.{length, get_or}
use borrow.Author.Tests.{eq-eqb, ne_eqb, eqb-true, eqb-false}
use Rattle.base.proofs.Tests.{false-true, or_fst, or_snd}
use Rattle.base.proofs.Members.{member-at}
use Rattle.base.proofs.RisingLaws.{not-among}
use Rattle.numbers.proofs.NumberLaws.{Rises, nothing, from}
use Rattle.pivotal.proofs.Suppliers.{Absent, Distinct, staying}
use Rattle.base.specs.Rising.{among, RisingFrom, end, next}

pub among-member : {k : ℕ} {ks : List ℕ} → Memᴰ k ks → among k ks ≡ true
unfolding among
among-member {k} (Memᴰ.head {x = j} e) = simp (eq-eqb k j e)
among-member {k} (Memᴰ.tail {x = j} {xs = ks} m) = go (eqb k j) (among-member m)
  where
    go : (t : Bool) → among k ks ≡ true → (t || among k ks) ≡ true
    go true e = refl
    go false e = e

pub member-among : (k : ℕ) (ks : List ℕ) → among k ks ≡ true → Memᴰ k ks
unfolding among
member-among k [] e = false-true e
member-among k (j ∷ ks) e = go (eqb k j) refl e (member-among k ks)
  where
    go : (t : Bool) → eqb k j ≡ t → (t || among k ks) ≡ true → (among k ks ≡ true → Memᴰ k ks) → Memᴰ k (j ∷ ks)
    go true f e ih = Memᴰ.head (eqb-true k j f)
    go false f e ih = Memᴰ.tail (ih e)

pub among-absent : {k : ℕ} {ks : List ℕ} → Absent k ks → among k ks ≡ false
unfolding among
among-absent Absent.none = refl
among-absent {k} (Absent.more {j} h a) = simp (ne_eqb k j (λ e. h (sym e)), among-absent a)

pub absent : (k : ℕ) (ks : List ℕ) → among k ks ≡ false → Absent k ks
unfolding among
absent k [] e = Absent.none
absent k (j ∷ ks) e =
    Absent.more (λ f. eqb-false k j (or_fst (eqb k j) (among k ks) e) (sym f)) (absent k ks (or_snd (eqb k j) (among k ks) e))

-- rising numbers are different
rising-distinct : {b : ℕ} {ks : List ℕ} → RisingFrom b ks → Distinct ks
rising-distinct end = Distinct.none
rising-distinct (next {x = k} {xs = ks} h r) = Distinct.more (absent k ks (not-among k (omega arith) r)) (rising-distinct r)

pub rises-distinct : {ks : List ℕ} → Rises ks → Distinct ks
rises-distinct nothing = Distinct.none
rises-distinct (from {x = k} {xs = ks} r) = Distinct.more (absent k ks (not-among k (omega arith) r)) (rising-distinct r)

not_there : {k : ℕ} {ks : List ℕ} → Absent k ks → Memᴰ k ks → ⊥
not_there a m = false-true (sym (among-absent a) ∙ among-member m)

-- different places hold different numbers
pub distinct-places :
    {ks : List ℕ} → Distinct ks → (i j : ℕ) → i < length ks → j < length ks → get_or ks i 0 ≡ get_or ks j 0 → i ≡ j
distinct-places Distinct.none i j h k e = absurd (omega arith)
distinct-places (Distinct.more a d) zero zero h k e = refl
distinct-places (Distinct.more {ks} a d) zero (suc j) h k e =
    absurd (not_there a (Memᴰ.cast e (member-at 0 ks j (omega arith))))
distinct-places (Distinct.more {ks} a d) (suc i) zero h k e =
    absurd (not_there a (Memᴰ.cast (sym e) (member-at 0 ks i (omega arith))))
distinct-places (Distinct.more a d) (suc i) (suc j) h k e = ap suc (distinct-places d i j (omega arith) (omega arith) e)

-- those that stay
absent-staying : {k : ℕ} (js : List ℕ) {ks : List ℕ} → Absent k ks → Absent k (staying js ks)
unfolding staying
absent-staying js Absent.none = Absent.none
absent-staying {k} js (Absent.more {j} {ks} h a) = go (among j js) (absent-staying js a)
  where
    go : (t : Bool) → Absent k (staying js ks) → Absent k (cond t (staying js ks) (j ∷ staying js ks))
    go true b = b
    go false b = Absent.more h b

pub distinct-staying : (js : List ℕ) {ks : List ℕ} → Distinct ks → Distinct (staying js ks)
unfolding staying
distinct-staying js Distinct.none = Distinct.none
distinct-staying js (Distinct.more {k} {ks} a d) = go (among k js) (distinct-staying js d)
  where
    go : (t : Bool) → Distinct (staying js ks) → Distinct (cond t (staying js ks) (k ∷ staying js ks))
    go true b = b
    go false b = Distinct.more (absent-staying js a) b

pub among-staying : (k : ℕ) (js ks : List ℕ) → among k (staying js ks) ≡ (among k ks && not (among k js))
unfolding staying among
among-staying k js [] = refl
among-staying k js (j ∷ ks) = go (among j js) (eqb k j) refl refl (among-staying k js ks)
  where
    go :
        (t u : Bool) → among j js ≡ t → eqb k j ≡ u → among k (staying js ks) ≡ (among k ks && not (among k js)) →
        among k (cond t (staying js ks) (j ∷ staying js ks)) ≡ ((u || among k ks) && not (among k js))
    go true true e f ih =
        let g : among k js ≡ true = rw (eqb-true k j f) e in
        simp (ih, g, and-false)
    go true false e f ih = ih
    go false true e f ih =
        let g : among k js ≡ false = rw (eqb-true k j f) e in
        simp (f, g)
    go false false e f ih = simp f ih
