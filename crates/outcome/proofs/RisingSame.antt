-- Rising numbers with the same members are the same numbers. Assumes nothing.
use Prim.Native.Nat.{ℕ, ◌<◌}
use mathlib.Core.Path.{◌≡◌, refl, sym, ap₂, subst}
use mathlib.Core.Logic.{◌⊎◌, inl, inr, ◌↔◌}
use mathlib.Core.List.Memᴰ.{cases_cons as among_cases}
use mathlib.Core.List.Memᴰ.{head as first}
use mathlib.Core.List.Memᴰ.{not-nil as among_none}
use mathlib.Core.List.Memᴰ.{tail as later}
use mathlib.Core.List.{List, ◌∷◌, Memᴰ as Among}
use native.Mathlib.Omega.{arith}
use Rattle.base.specs.Rising.{RisingFrom, RisingFrom.end, RisingFrom.next}

-- each is above the bound
pub above-bound : {b x : ℕ} {xs : List ℕ} → RisingFrom b xs → Among x xs → b < x
above-bound (end {b = b}) m = elim m [ ]
above-bound (next h r) (first e) = omega arith
above-bound (next h r) (later m) = omega (arith, above-bound r m)

-- the first is the least, so that two such lists begin with the same
same_first :
    {x y : ℕ} {xs ys : List ℕ} → RisingFrom x xs → RisingFrom y ys → Among x (y ∷ ys) → Among y (x ∷ xs) → x ≡ y
same_first {x} {y} {xs} {ys} r s m n = go (among_cases m) (among_cases n)
  where
    go : (x ≡ y) ⊎ Among x ys → (y ≡ x) ⊎ Among y xs → x ≡ y
    go (inl e) q = e
    go (inr p) (inl e) = sym e
    go (inr p) (inr q) = absurd (omega (arith, above-bound r q, above-bound s p))

-- behind the first, which is below all others, the members are the same too
others :
    {x y z : ℕ} {xs ys : List ℕ} → RisingFrom x xs → x ≡ y → (Among z (x ∷ xs) → Among z (y ∷ ys)) → Among z xs → Among z ys
others {x} {y} {z} {xs} {ys} r e f m = go (among_cases (f (later m)))
  where
    go : (z ≡ y) ⊎ Among z ys → Among z ys
    go (inl g) = absurd (omega (arith, above-bound r m))
    go (inr n) = n

pub rising-same :
    {b : ℕ} {xs ys : List ℕ} → RisingFrom b xs → RisingFrom b ys → ((x : ℕ) → Among x xs ↔ Among x ys) → xs ≡ ys
rising-same end end same = refl
rising-same end (next {x = y} k s) same = absurd (among_none ((same y).1 (first refl)))
rising-same (next {x = x} h r) end same = absurd (among_none ((same x).0 (first refl)))
rising-same (next {x = x} {xs = xs} h r) (next {x = y} {xs = ys} k s) same =
    let e : x ≡ y = same_first r s ((same x).0 (first refl)) ((same y).1 (first refl)) in
    let s' : RisingFrom x ys = subst (λ (b : ℕ). RisingFrom b ys) (sym e) s in
    ap₂ ◌∷◌ e (rising-same r s' (λ z. (others r e (same z).0, others s (sym e) (same z).1)))
