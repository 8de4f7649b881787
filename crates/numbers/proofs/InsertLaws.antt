-- Laws of inserting a number among those at the start of a run, over plain lists: finding its place, and putting it there.
-- Assumes nothing.
use Prim.Native.Nat.{ℕ, suc, ◌+◌, ◌-◌, ◌≤◌, ◌<◌}
use mathlib.Core.Path.{◌≡◌, refl, sym, ◌∙◌, ap}
use mathlib.Core.Logic.{◌⊎◌, inl, inr, ⊎_elim}
use mathlib.Core.Bool.{Bool, true, false, not, cond}
use mathlib.Core.List.{List, [], ◌∷◌, ◌++◌, append_assoc}
use native.Mathlib.Omega.{arith}
use native.Mathlib.Numerals.{add-one}
use lib.Dec.{leb, ltb}
use borrow.Author.Tests.{leb-true, leb-false, lt-ltb, le-ltb}
use Rattle.std.specs.List.{copy_within, position, position_or_len}
use Rattle.std.specs.Prelude.{Option, Some, None, unwrap_or}
use lib.ListN.{length, get_or, take, drop, set, length-append, take-append-drop}
use lib.Seq.{get_or-take, length-take-le, set_split, take-take, take-append-le, drop_at}
use Rattle.std.proofs.lemmas.List.{drop-take}
use Rattle.base.specs.Rising.{inserted}
use Rattle.base.specs.promises.Writing.{Wrote}
use Rattle.base.proofs.Lists.{drop-end}
use Rattle.base.proofs.Tests.{lt-or-ge}
use Rattle.base.proofs.RisingLaws.{inserted-cases}
use Rattle.numbers.specs.promises.Inserting.{Placed, with_at}
use Rattle.numbers.proofs.SearchLaws.{front-next}

inserted-behind : (x y : ℕ) (ys : List ℕ) → y < x → inserted x (y ∷ ys) ≡ y ∷ inserted x ys
inserted-behind x y ys h =
    inserted-cases x y ys (λ (l : List ℕ). l ≡ y ∷ inserted x ys)
    (λ below. absurd (omega arith))
    (λ same. absurd (omega arith))
    (λ above. refl)

inserted-before : (x y : ℕ) (ys : List ℕ) → x < y → inserted x (y ∷ ys) ≡ x ∷ y ∷ ys
inserted-before x y ys h =
    inserted-cases x y ys (λ (l : List ℕ). l ≡ x ∷ y ∷ ys)
    (λ below. refl)
    (λ same. absurd (omega arith))
    (λ above. absurd (omega arith))

inserted-at : (x y : ℕ) (ys : List ℕ) → x ≡ y → inserted x (y ∷ ys) ≡ y ∷ ys
inserted-at x y ys e =
    inserted-cases x y ys (λ (l : List ℕ). l ≡ y ∷ ys)
    (λ below. absurd (omega arith))
    (λ same. refl)
    (λ above. absurd (omega arith))

-- the place of the first number that is not below x, the length where there is none
placed_first : (x : ℕ) (xs : List ℕ) → Placed x xs (position_or_len (λ (y : ℕ). leb x y) xs)
placed_first x [] = record { within = omega arith; passed = refl; stops = λ h. absurd (omega arith) }
placed_first x (y ∷ ys) = go (leb x y) refl (placed_first x ys)
  where
    n : ℕ
    n = position_or_len (λ (z : ℕ). leb x z) ys

    go : (t : Bool) → leb x y ≡ t → Placed x ys n → Placed x (y ∷ ys) (cond (not t) (1 + n) 0)
    go true e p = record { within = omega arith; passed = refl; stops = λ h. leb-true x y e }
    go false e p =
        let more : 1 + n ≡ suc n = omega arith in
        rw more
        record {
          within = omega (arith, p.within);
          passed = inserted-behind x y ys (leb-false x y e) ∙ ap (λ (l : List ℕ). y ∷ l) p.passed;
          stops = λ h. p.stops (omega arith);
        }

pub placed_found :
    (x : ℕ) (xs : List ℕ) {found : Option ℕ} {r : ℕ} →
    found ≡ position (λ (y : ℕ). leb x y) xs → r ≡ unwrap_or found (length xs) → Placed x xs r
placed_found x xs e f = rw (f, e) (go (lt-or-ge n (length xs)))
  where
    n : ℕ
    n = position_or_len (λ (y : ℕ). leb x y) xs

    go : (n < length xs) ⊎ (length xs ≤ n) → Placed x xs (unwrap_or (cond (ltb n (length xs)) (Some n) None) (length xs))
    go (inl h) = rw (lt-ltb n (length xs) h) (placed_first x xs)
    go (inr h) =
        let all : length xs ≡ n = omega (arith, (placed_first x xs).within) in
        rw (le-ltb n (length xs) h, all) (placed_first x xs)

-- the numbers from `at` up to `count` one place further, and then x at `at`
pub moved_up :
    (old : List ℕ) (at count x : ℕ) → at ≤ count → count < length old →
    set (copy_within old at count (at + 1)) at x ≡ with_at at count x old
unfolding with_at
moved_up old at count x h r =
    rw (
      append_assoc (take (at + 1) old) (take (count - at) (drop at old)) (drop (at + 1 + (count - at)) old),
      behind_count,
      set_split (take (at + 1) old ++ rest) at x inside,
      take-append-le at (take (at + 1) old) rest within,
      take-take at (at + 1) old (omega arith),
      ← add-one at,
      drop_at (take (at + 1) old) rest (at + 1) length_front,
      middle,
    )
  where
    rest : List ℕ
    rest = take (count - at) (drop at old) ++ drop (suc count) old

    length_front : length (take (at + 1) old) ≡ at + 1
    length_front = length-take-le (at + 1) old (omega arith)

    within : at ≤ length (take (at + 1) old)
    within = omega (arith, length_front)

    inside : at < length (take (at + 1) old ++ rest)
    inside = omega (arith, length_front, length-append (take (at + 1) old) rest)

    behind_count : at + 1 + (count - at) ≡ suc count
    behind_count = omega arith

    middle : take (count - at) (drop at old) ≡ drop at (take count old)
    middle =
        let whole : at + (count - at) ≡ count = omega arith in
        sym (rw whole at (drop-take at (count - at) old))

module _ (old : List ℕ) (count x at : ℕ) (room : count < length old) (lent : Placed x (take (count - 0) old) at) where
  placed : Placed x (take count old) at
  placed =
      let whole : count - 0 ≡ count = omega arith in
      rw whole at lent

  front_length : length (take count old) ≡ count
  front_length = length-take-le count old (omega arith)

  -- a number that stands at its place is there already
  pub insert-there : at < count → get_or old at 0 ≡ x → Wrote (inserted x (take count old)) count old old
  insert-there h e =
      record {
        counted = rw (same, front_length);
        written = rw (same, front_length) (sym (take-append-drop count old));
      }
    where
      stays : inserted x (drop at (take count old)) ≡ drop at (take count old)
      stays = rw (front-next count at old (omega arith) h) (inserted-at x (get_or old at 0) (drop (at + 1) (take count old)) (sym e))

      same : inserted x (take count old) ≡ take count old
      same =
          placed.passed
          ∙ ap (λ (l : List ℕ). take at (take count old) ++ l) stays
          ∙ take-append-drop at (take count old)

  -- any other number goes in between
  between :
      (at < count → get_or old at 0 ≡ x → ⊥) → inserted x (take count old) ≡ take at (take count old) ++ x ∷ drop at (take count old)
  unfolding inserted
  between e = placed.passed ∙ ap (λ (l : List ℕ). take at (take count old) ++ l) (⊎_elim inside past (lt-or-ge at count))
    where
      inside : at < count → inserted x (drop at (take count old)) ≡ x ∷ drop at (take count old)
      inside h =
          let stops : x ≤ get_or old at 0 = rw (get_or-take count old at 0 h) at (placed.stops (rw front_length h)) in
          let other = e h in
          rw (front-next count at old (omega arith) h) (inserted-before x (get_or old at 0) (drop (at + 1) (take count old)) (omega arith))

      past : count ≤ at → inserted x (drop at (take count old)) ≡ x ∷ drop at (take count old)
      past h = rw (drop-end at (take count old) (rw front_length h))

  pub insert-new :
      (new : List ℕ) → (at < count → get_or old at 0 ≡ x → ⊥) → new ≡ with_at at count x old →
      Wrote (inserted x (take count old)) (count + 1) old new
  unfolding with_at
  insert-new new e f =
      record {
        counted = sym longer;
        written = f ∙ rw (longer, between e, add-one count, take-take at count old upto) (sym (append_assoc (take at old) (x ∷ drop at (take count old)) (drop (suc count) old)));
      }
    where
      upto : at ≤ count
      upto = rw front_length at placed.within

      longer : length (inserted x (take count old)) ≡ count + 1
      longer =
          rw (between e, length-append)
          (omega (arith, front_length, length-append (take at (take count old)) (drop at (take count old)), ap length (take-append-drop at (take count old))))
