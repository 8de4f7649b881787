-- Elements of a list, and the searches over them. Assumes nothing.
use mathlib.Core.Path.{◌≡◌, refl, sym, ◌∙◌, ap}
use mathlib.Core.Logic.{⊎_elim}
use mathlib.Core.Bool.{Bool, true, false, cond}
use mathlib.Core.List.Memᴰ
use mathlib.Core.List.{List, [], ◌∷◌, map, Memᴰ}
use Rattle.base.specs.Search.{any, find, those, All, all_none, all_more}
use Rattle.base.proofs.Finds.{any-later, those-here, those-later}
use Rattle.base.proofs.Tests.{either, or_fst, or_snd, false-true}

pub all-mem : {A : Type 0} {P : A → Type 0} {xs : List A} {x : A} → All P xs → Memᴰ x xs → P x
all-mem all_none m = elim m [ ]
all-mem {P} (all_more p a) (Memᴰ.head e) = rw e p
all-mem (all_more p a) (Memᴰ.tail m) = all-mem a m

-- what each element has, all have
pub all_of : {A : Type 0} {P : A → Type 0} (xs : List A) → ((x : A) → Memᴰ x xs → P x) → All P xs
all_of [] f = all_none
all_of {A} (x ∷ xs) f = all_more (f x (Memᴰ.head refl)) (all_of xs (λ (y : A) (m : Memᴰ y xs). f y (Memᴰ.tail m)))

module _ {A : Type 0} (p : A → Bool) where
  -- one that passes, where some element does
  pub any-mem : (xs : List A) → any p xs ≡ true → (x : A) × Memᴰ x xs × (p x ≡ true)
  unfolding any
  any-mem [] e = false-true e
  any-mem (x ∷ xs) e = ⊎_elim here (later (λ (f : any p xs ≡ true). any-mem xs f)) (either (p x))
    where
      here : p x ≡ true → (y : A) × Memᴰ y (x ∷ xs) × (p y ≡ true)
      here f = (x, Memᴰ.head refl, f)

      later :
          (any p xs ≡ true → (y : A) × Memᴰ y xs × (p y ≡ true)) → p x ≡ false →
          (y : A) × Memᴰ y (x ∷ xs) × (p y ≡ true)
      later below f =
          let found = below (sym (any-later p x xs f) ∙ e) in
          (found.0, Memᴰ.tail found.1, found.2)

  -- where none does, each fails
  pub none-mem : (xs : List A) (x : A) → any p xs ≡ false → Memᴰ x xs → p x ≡ false
  unfolding any
  none-mem [] x e m = elim m [ ]
  none-mem (y ∷ xs) x e (Memᴰ.head f) = rw f (or_fst (p y) (any p xs) e)
  none-mem (y ∷ xs) x e (Memᴰ.tail m) = none-mem xs x (or_snd (p y) (any p xs) e) m

  -- and where each fails, none does
  pub mem-none : (xs : List A) → ((x : A) → Memᴰ x xs → p x ≡ false) → any p xs ≡ false
  unfolding any
  mem-none [] f = refl
  mem-none (x ∷ xs) f =
      any-later p x xs (f x (Memᴰ.head refl)) ∙ mem-none xs (λ (y : A) (m : Memᴰ y xs). f y (Memᴰ.tail m))

  pub all-those : {P : A → Type 0} {xs : List A} → All P xs → All P (those p xs)
  unfolding those
  all-those all_none = all_none
  all-those {P} {xs = x ∷ xs} (all_more q a) = go (p x) (all-those a)
    where
      go : (t : Bool) → All P (those p xs) → All P (cond t (x ∷ those p xs) (those p xs))
      go true b = all_more q b
      go false b = b

  -- an element is among those that pass exactly when it is among all, and passes
  pub mem-those : {x : A} {xs : List A} → Memᴰ x xs → p x ≡ true → Memᴰ x (those p xs)
  mem-those {x} (Memᴰ.head {x = y} {xs = ys} e) t = rw (those-here p y ys (ap p (sym e) ∙ t)) (Memᴰ.head e)
  mem-those {x} (Memᴰ.tail {x = y} {xs = ys} m) t = go (p y) refl (mem-those m t)
    where
      go : (u : Bool) → p y ≡ u → Memᴰ x (those p ys) → Memᴰ x (those p (y ∷ ys))
      go true e n = rw (those-here p y ys e) (Memᴰ.tail n)
      go false e n = rw (those-later p y ys e) n

  pub those-mem : {x : A} (xs : List A) → Memᴰ x (those p xs) → Memᴰ x xs × (p x ≡ true)
  unfolding those
  those-mem [] m = elim m [ ]
  those-mem {x} (y ∷ ys) m = go (p y) refl m (those-mem ys)
    where
      go :
          (u : Bool) → p y ≡ u → Memᴰ x (cond u (y ∷ those p ys) (those p ys)) →
          (Memᴰ x (those p ys) → Memᴰ x ys × (p x ≡ true)) →
          Memᴰ x (y ∷ ys) × (p x ≡ true)
      go true e n h =
          ⊎_elim (λ f. (Memᴰ.head f, ap p f ∙ e)) (λ n. (Memᴰ.tail (h n).0, (h n).1)) (Memᴰ.cases_cons n)
      go false e n h = (Memᴰ.tail (h n).0, (h n).1)

-- elements of what a function makes of a list
module _ {A B : Type 0} (f : A → B) where
  pub mem-map : {x : A} {xs : List A} → Memᴰ x xs → Memᴰ (f x) (map f xs)
  mem-map (Memᴰ.head e) = Memᴰ.head (ap f e)
  mem-map (Memᴰ.tail m) = Memᴰ.tail (mem-map m)

  pub map-mem : {y : B} (xs : List A) → Memᴰ y (map f xs) → (x : A) × Memᴰ x xs × (y ≡ f x)
  map-mem [] m = elim m [ ]
  map-mem {y} (x ∷ xs) m = ⊎_elim (λ e. (x, Memᴰ.head refl, e)) (further (map-mem xs)) (Memᴰ.cases_cons m)
    where
      further :
          (Memᴰ y (map f xs) → (z : A) × Memᴰ z xs × (y ≡ f z)) → Memᴰ y (map f xs) →
          (z : A) × Memᴰ z (x ∷ xs) × (y ≡ f z)
      further h n = ((h n).0, Memᴰ.tail (h n).1, (h n).2)

-- two tests of which each finds nothing where the other does
pub any-agree :
    {A : Type 0} (p q : A → Bool) (xs : List A) → (any p xs ≡ false → any q xs ≡ false) →
    (any q xs ≡ false → any p xs ≡ false) → any p xs ≡ any q xs
any-agree p q xs f g = go (any p xs) (any q xs) f g
  where
    go : (s t : Bool) → (s ≡ false → t ≡ false) → (t ≡ false → s ≡ false) → s ≡ t
    go true true f g = refl
    go true false f g = g refl
    go false t f g = sym (f refl)

pub any_same : {A : Type 0} (p q : A → Bool) (xs : List A) → ((x : A) → p x ≡ q x) → any p xs ≡ any q xs
unfolding any
any_same p q [] f = refl
any_same p q (x ∷ xs) f = rw (f x, any_same p q xs f)

pub find-same : {A : Type 0} (p q : A → Bool) (xs : List A) → ((x : A) → p x ≡ q x) → find p xs ≡ find q xs
unfolding find
find-same p q [] f = refl
find-same p q (x ∷ xs) f = rw (f x, find-same p q xs f)

-- those that pass a test are found among those that pass a weaker one
pub those-within : {A : Type 0} (p q : A → Bool) → ((x : A) → q x ≡ true → p x ≡ true) → (xs : List A) → those q (those p xs) ≡ those q xs
unfolding those
those-within p q weaker [] = refl
those-within p q weaker (x ∷ xs) = go (p x) (q x) refl refl (those-within p q weaker xs)
  where
    go :
        (s t : Bool) → p x ≡ s → q x ≡ t → those q (those p xs) ≡ those q xs →
        those q (cond s (x ∷ those p xs) (those p xs)) ≡ cond t (x ∷ those q xs) (those q xs)
    go true true e f below = those-here q x (those p xs) f ∙ rw below
    go true false e f below = those-later q x (those p xs) f ∙ below
    go false true e f below = false-true (sym e ∙ weaker x f)
    go false false e f below = below
