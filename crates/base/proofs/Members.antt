-- Members of a list: by their places, in a rest of the list, what a search finds of them, and the lowest of those that pass
-- a test. Assumes nothing.
use Rattle.std.specs.Prelude.{None, Option, Some}
use Prim.Native.Nat.{ℕ, zero, suc, ◌+◌, ◌<◌}
use mathlib.Core.Path.{◌≡◌, refl, sym, ◌∙◌, subst}
use mathlib.Core.Logic.{◌⊎◌, inl, inr, ⊎_elim}
use mathlib.Core.Bool.{Bool, true, false, cond}
use mathlib.Core.List.Memᴰ
use mathlib.Core.List.{List, [], ◌∷◌, Memᴰ}
use native.Mathlib.Omega.{arith}
use lib.ListN.{length, get_or, drop}
use Rattle.base.specs.Search.{first}
use Rattle.base.proofs.Tests.{false-true}

module _ {A : Type 0} where
  -- what holds of the first and of the others holds of all
  pub for-cons :
      (P : A → Type 0) {x : A} {xs : List A} → P x → ((y : A) → Memᴰ y xs → P y) → (y : A) → Memᴰ y (x ∷ xs) → P y
  for-cons P h t y m = ⊎_elim (λ e. subst P (sym e) h) (t y) (Memᴰ.cases_cons m)

  pub member-of-rest : (i : ℕ) (xs : List A) {y : A} → Memᴰ y (drop i xs) → Memᴰ y xs
  member-of-rest zero xs m = m
  member-of-rest (suc i) [] m = m
  member-of-rest (suc i) (x ∷ xs) m = Memᴰ.tail (member-of-rest i xs m)

  pub member-at : (d : A) (xs : List A) (i : ℕ) → i < length xs → Memᴰ (get_or xs i d) xs
  member-at d [] i h = absurd (omega arith)
  member-at d (x ∷ xs) zero h = Memᴰ.head refl
  member-at d (x ∷ xs) (suc i) h = Memᴰ.tail (member-at d xs i (omega arith))

  pub place_of : (d : A) {y : A} {xs : List A} → Memᴰ y xs → (i : ℕ) × (i < length xs) × (get_or xs i d ≡ y)
  place_of d (Memᴰ.head e) = (0, omega arith, sym e)
  place_of d (Memᴰ.tail m) =
      let (i, h, e) = place_of d m in
      (suc i, omega arith, e)

-- what a search finds: the place of an element that passes the test, or nothing where none does
module _ {A : Type 0} (d : A) (p : A → Bool) where
  pub data Finds (k : ℕ) (xs : List A) : Option ℕ → Type 0 where
    it : (i : ℕ) → i < length xs → p (get_or xs i d) ≡ true → Finds k xs (Some (k + i))
    nothing : ((y : A) → Memᴰ y xs → p y ≡ false) → Finds k xs None

  finds-more :
      {k : ℕ} {x : A} {xs : List A} {o : Option ℕ} (t : Bool) → p x ≡ t → Finds (suc k) xs o →
      Finds k (x ∷ xs) (cond t (Some k) o)
  finds-more {k} {x} {xs} true e _ =
      let here : k + 0 ≡ k = omega arith in
      let f : Finds k (x ∷ xs) (Some (k + 0)) = it 0 (omega arith) e in
      rw here at f
  finds-more {k} {x} {xs} false e (it i h f) =
      let next : k + suc i ≡ suc k + i = omega arith in
      let g : Finds k (x ∷ xs) (Some (k + suc i)) = it (suc i) (omega arith) f in
      rw next at g
  finds-more false e (nothing h) = nothing (for-cons (λ y. p y ≡ false) e h)

  pub finds : (k : ℕ) (xs : List A) → Finds k xs (first p k xs)
  unfolding first
  finds k [] = nothing (λ y m. absurd (Memᴰ.not-nil m))
  finds k (x ∷ xs) = finds-more (p x) refl (finds (suc k) xs)

-- an element that passes a test, and is no higher than any other that does
pub record Lowest {A : Type 0} (R : A → A → Type 0) (p : A → Bool) (xs : List A) : Type 0 where
  pub it : A
  pub a-member : Memᴰ it xs
  pub passes : p it ≡ true
  pub no-higher : (y : A) → Memᴰ y xs → p y ≡ true → R it y

-- there is one, or none passes, where of any two one is no higher, and the order goes through whatever passes
module _
    {A : Type 0} (R : A → A → Type 0) (p : A → Bool)
    (one_way : (x y : A) → R x y ⊎ R y x) (through : (x y z : A) → p y ≡ true → R x y → R y z → R x z)
  where
    NonePasses : List A → Type 0
    NonePasses xs = (y : A) → Memᴰ y xs → p y ≡ false

    itself : (x : A) → R x x
    itself x = ⊎_elim (λ h. h) (λ h. h) (one_way x x)

    module _ {x : A} {xs : List A} (e : p x ≡ true) where
      first-lowest : ((y : A) → Memᴰ y xs → p y ≡ true → R x y) → Lowest R p (x ∷ xs)
      first-lowest h =
          record {
            it = x;
            a-member = Memᴰ.head refl;
            passes = e;
            no-higher = for-cons (λ y. p y ≡ true → R x y) (λ _. itself x) h;
          }

      with_first : Lowest R p xs → Lowest R p (x ∷ xs)
      with_first l = ⊎_elim lower higher (one_way x l.it)
        where
          lower : R x l.it → Lowest R p (x ∷ xs)
          lower h = first-lowest (λ y m f. through x l.it y l.passes h (l.no-higher y m f))

          higher : R l.it x → Lowest R p (x ∷ xs)
          higher h =
              record {
                it = l.it;
                a-member = Memᴰ.tail l.a-member;
                passes = l.passes;
                no-higher = for-cons (λ y. p y ≡ true → R l.it y) (λ _. h) l.no-higher;
              }

    lowest-more :
        {x : A} {xs : List A} (t : Bool) → p x ≡ t → Lowest R p xs ⊎ NonePasses xs → Lowest R p (x ∷ xs) ⊎ NonePasses (x ∷ xs)
    unfolding NonePasses
    lowest-more true e (inl l) = inl (with_first e l)
    lowest-more true e (inr n) = inl (first-lowest e (λ y m f. false-true (sym (n y m) ∙ f)))
    lowest-more {x} false e (inl l) =
        inl
        (record {
          it = l.it;
          a-member = Memᴰ.tail l.a-member;
          passes = l.passes;
          no-higher = for-cons (λ y. p y ≡ true → R l.it y) (λ f. false-true (sym e ∙ f)) l.no-higher;
        })
    lowest-more false e (inr n) = inr (for-cons (λ y. p y ≡ false) e n)

    pub lowest : (xs : List A) → Lowest R p xs ⊎ ((y : A) → Memᴰ y xs → p y ≡ false)
    unfolding NonePasses
    lowest [] = inr (λ y m. absurd (Memᴰ.not-nil m))
    lowest (x ∷ xs) = lowest-more (p x) refl (lowest xs)
