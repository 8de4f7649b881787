-- Laws of searching numbers, over plain lists. Assumes nothing.
use Prim.Native.Nat.{ℕ, suc, ◌+◌, ◌≤◌, ◌<◌}
use mathlib.Core.Path.{◌≡◌, refl, sym, ◌∙◌, ap}
use mathlib.Core.Bool.{Bool, true, false, cond}
use mathlib.Core.List.{List, [], ◌∷◌}
use native.Mathlib.Numerals.{add-one}
use native.Mathlib.Omega.{arith}
use Rattle.std.specs.List.{list_any, position, position_from}
use Rattle.std.specs.Prelude.{Option, Some, unwrap_or}
use Rattle.std.proofs.lemmas.Iterator.Adapters.{position_from-zero}
use lib.Dec.{eqb}
use lib.ListN.{length, get_or, take, drop}
use lib.Seq.{get_or-take, length-take-le}
use borrow.Author.Tests.{eqb-true, eq-eqb}
use Rattle.base.specs.Rising.{among}
use Rattle.base.specs.Search.{first}
use Rattle.base.proofs.Lists.{drop-next}
use Rattle.base.proofs.Members.{Finds, it, nothing, finds, member-at}
use Rattle.base.proofs.Tests.{false-true}
use Rattle.numbers.specs.Numbers.{place_of}
use Rattle.numbers.proofs.NumberLaws.{eqb-swapped}

-- the first n numbers from i on, taken apart
pub front-next :
    (n i : ℕ) (s : List ℕ) → n ≤ length s → i < n → drop i (take n s) ≡ get_or s i 0 ∷ drop (i + 1) (take n s)
front-next n i s h k =
    drop-next 0 i (take n s) (rw (length-take-le n s h) k) ∙ rw (get_or-take n s i 0 k)

-- the search of std, with the number that is sought on the test's other side
pub any_among : (x : ℕ) (xs : List ℕ) {r : Bool} → r ≡ list_any (λ (y : ℕ). eqb y x) xs → r ≡ among x xs
unfolding among
any_among x [] e = e
any_among x (y ∷ ys) e = e ∙ rw (eqb-swapped y x, any_among x ys refl)

-- the first place at which a test passes, by std's definition and by base's
module _ (p : ℕ → Bool) where
  first_place : (k : ℕ) (xs : List ℕ) → position_from p k xs ≡ first p k xs
  unfolding first
  first_place k [] = refl
  first_place k (x ∷ xs) = ap (cond (p x) (Some k)) (rw add-one (first_place (suc k) xs))

  pub found_place : (xs : List ℕ) {found : Option ℕ} → found ≡ position p xs → found ≡ first p 0 xs
  found_place xs e = e ∙ rw position_from-zero (first_place 0 xs)

-- where 0 stands for a place that isn't there, as in the definition
pub place-told :
    (x : ℕ) (xs : List ℕ) {found : Option ℕ} {place : ℕ} →
    found ≡ first (λ (y : ℕ). eqb y x) 0 xs → place ≡ unwrap_or found 0 → place ≡ place_of x xs
unfolding place_of
place-told x xs e f = f ∙ rw e

-- the place of a number that is among some
pub place-holds :
    (k : ℕ) (ks : List ℕ) → (i : ℕ) × (i < length ks) × (get_or ks i 0 ≡ k) →
    (place_of k ks < length ks) × (get_or ks (place_of k ks) 0 ≡ k)
unfolding place_of
place-holds k ks (i, h, e) = go (finds 0 (λ (j : ℕ). eqb j k) 0 ks)
  where
    go :
        {o : Option ℕ} → Finds 0 (λ (j : ℕ). eqb j k) 0 ks o →
        (unwrap_or o 0 < length ks) × (get_or ks (unwrap_or o 0) 0 ≡ k)
    go (it j l f) =
        let place : 0 + j ≡ j = omega arith in
        rw place (l, eqb-true (get_or ks j 0) k f)
    go (nothing n) = false-true (sym (n (get_or ks i 0) (member-at 0 ks i h)) ∙ eq-eqb (get_or ks i 0) k e)
