-- Laws of what a field may hold, over plain lists: one for each way through the code. Assumes nothing.
use Rattle.std.specs.Prelude.{None, Option, Some, option_map}
use Prim.Native.Nat.{ℕ, ◌+◌, ◌-◌, ◌≤◌}
use mathlib.Core.Path.{◌≡◌, refl, sym, ◌∙◌}
use mathlib.Core.Bool.{Bool, true, false, cond, ◌&&◌}
use mathlib.Core.List.{List, [], ◌∷◌}
use native.Mathlib.Omega.{arith}
use lib.Dec.{eqb}
use lib.ListN.{length, get_or, take, drop}
use borrow.Author.Tests.{eq-eqb, ne_eqb}
use Rattle.base.specs.Text.{same}
use Rattle.base.proofs.Lists.{rest-lent}
use Rattle.numeral.specs.Numeral.{number, within}
use Rattle.numeral.proofs.Laws.{within-some}
use Rattle.tables.specs.Values.{MINUS, excess, one_of}

module _ (f : ℕ → ℕ) (o : Option ℕ) {r : Option ℕ} (read : r ≡ o) where
  mapped-number : (n : ℕ) → r ≡ Some n → Some (f n) ≡ option_map f o
  mapped-number n e = rw (sym read ∙ e)

  mapped-refused : r ≡ None → None ≡ option_map f o
  mapped-refused e = rw (sym read ∙ e)

-- what a read number is bounded by
pub read-most : (least most n : ℕ) (o : Option ℕ) {r : Option ℕ} → r ≡ within least most o → r ≡ Some n → n ≤ most
read-most least most n o read e = (within-some least most n o (sym read ∙ e)).2

module _ (minimum maximum : ℕ) where
  pub excess-blank : (t : List ℕ) → length t ≡ 0 → None ≡ excess minimum maximum t
  unfolding excess
  excess-blank [] h = refl
  excess-blank (b ∷ s) h = absurd (omega arith)

  excess-minus :
      (t : List ℕ) → (length t ≡ 0 → ⊥) → get_or t 0 0 ≡ MINUS →
      excess minimum maximum t ≡ option_map (λ (n : ℕ). minimum - n) (within 1 minimum (number (take (length t - 1) (drop 1 t))))
  unfolding excess
  excess-minus [] h e = absurd (h refl)
  excess-minus (b ∷ s) h e = rw (rest-lent 1 (b ∷ s), eq-eqb b MINUS e)

  excess-plain :
      (t : List ℕ) → (length t ≡ 0 → ⊥) → (get_or t 0 0 ≡ MINUS → ⊥) →
      excess minimum maximum t ≡ option_map (λ (n : ℕ). minimum + n) (within 0 maximum (number t))
  unfolding excess
  excess-plain [] h e = absurd (h refl)
  excess-plain (b ∷ s) h e = rw (ne_eqb b MINUS e)

  module _ (t : List ℕ) {r : Option ℕ} (some : length t ≡ 0 → ⊥) where
    module _ (minus : get_or t 0 0 ≡ MINUS) (read : r ≡ within 1 minimum (number (take (length t - 1) (drop 1 t)))) where
      pub excess-below : (n : ℕ) → r ≡ Some n → Some (minimum - n) ≡ excess minimum maximum t
      excess-below n e = rw (excess-minus t some minus) (mapped-number (λ (n : ℕ). minimum - n) _ read n e)

      pub excess-below-refused : r ≡ None → None ≡ excess minimum maximum t
      excess-below-refused e = rw (excess-minus t some minus) (mapped-refused (λ (n : ℕ). minimum - n) _ read e)

    module _ (plain : get_or t 0 0 ≡ MINUS → ⊥) (read : r ≡ within 0 maximum (number t)) where
      pub excess-above : (n : ℕ) → r ≡ Some n → Some (minimum + n) ≡ excess minimum maximum t
      excess-above n e = rw (excess-plain t some plain) (mapped-number (λ (n : ℕ). minimum + n) _ read n e)

      pub excess-above-refused : r ≡ None → None ≡ excess minimum maximum t
      excess-above-refused e = rw (excess-plain t some plain) (mapped-refused (λ (n : ℕ). minimum + n) _ read e)

module _ (a b : ℕ) where
  pub one-of-long : (t : List ℕ) → (length t ≡ 1 → ⊥) → None ≡ one_of a b t
  unfolding one_of same
  one-of-long [] h = refl
  one-of-long (x ∷ []) h = absurd (h refl)
  one-of-long (x ∷ y ∷ s) h = go (eqb x a) (eqb x b)
    where
      go :
          (p q : Bool) →
          None ≡ cond (p && false) (Some a) (cond (q && false) (Some b) None)
      go true true = refl
      go true false = refl
      go false true = refl
      go false false = refl

  pub one-of-first : (t : List ℕ) → length t ≡ 1 → get_or t 0 0 ≡ a → Some a ≡ one_of a b t
  unfolding one_of same
  one-of-first [] h e = absurd (omega arith)
  one-of-first (x ∷ []) h e = simp (eq-eqb x a e)
  one-of-first (x ∷ y ∷ s) h e = absurd (omega arith)

  pub one-of-second :
      (t : List ℕ) → length t ≡ 1 → (get_or t 0 0 ≡ a → ⊥) → get_or t 0 0 ≡ b → Some b ≡ one_of a b t
  unfolding one_of same
  one-of-second [] h n e = absurd (omega arith)
  one-of-second (x ∷ []) h n e = simp (ne_eqb x a n, eq-eqb x b e)
  one-of-second (x ∷ y ∷ s) h n e = absurd (omega arith)

  pub one-of-neither :
      (t : List ℕ) → length t ≡ 1 → (get_or t 0 0 ≡ a → ⊥) → (get_or t 0 0 ≡ b → ⊥) → None ≡ one_of a b t
  unfolding one_of same
  one-of-neither [] h n m = absurd (omega arith)
  one-of-neither (x ∷ []) h n m = simp (ne_eqb x a n, ne_eqb x b m)
  one-of-neither (x ∷ y ∷ s) h n m = absurd (omega arith)
