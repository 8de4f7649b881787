-- Laws of totals, of amounts taken away and of the two largest amounts. Assumes nothing.
use Prim.Native.Nat.{ℕ, zero, suc, ◌+◌, ◌≤◌}
use mathlib.Core.Path.{◌≡◌, refl, sym, ◌∙◌, ap}
use mathlib.Core.Logic.{◌≢◌, ◌⊎◌, inl, inr, ⊎_elim}
use mathlib.Core.List.{List, [], ◌∷◌}
use native.Mathlib.Omega.{arith}
use lib.ListN.{length, get_or, set, get_or-eq_default}
use lib.Seq.{get_or-set_other}
use Rattle.base.proofs.Tests.{lt-or-ge}
use Rattle.pivotal.specs.declared.feeding.Largest.{Largest}
use Rattle.pivotal.specs.Test.{total, no_largest, largest_with, largest_after}

-- an amount taken away is missing from the total
pub total-set : (s : List ℕ) (q : ℕ) → total (set s q 0) + get_or s q 0 ≡ total s
unfolding total
total-set [] q = refl
total-set (a ∷ s) zero = omega arith
total-set (a ∷ s) (suc q) = omega (arith, total-set s q)

pub total-set-two :
    (s : List ℕ) (q r : ℕ) → q ≢ r → total (set (set s q 0) r 0) + (get_or s q 0 + get_or s r 0) ≡ total s
total-set-two s q r h =
    let e : get_or (set s q 0) r 0 ≡ get_or s r 0 = get_or-set_other s q r 0 0 (λ x. h (sym x)) in
    omega (arith, total-set s q, total-set (set s q 0) r)

-- nothing is left in a place taken away
pub set-gone : (s : List ℕ) (p : ℕ) → get_or (set s p 0) p 0 ≡ 0
set-gone [] p = refl
set-gone (a ∷ s) zero = refl
set-gone (a ∷ s) (suc p) = set-gone s p

-- the two largest together
unfoldable pub both : Largest → ℕ
both l = l.first + l.second

-- what the amount a makes of the two largest l
record Feeds (l : Largest) (a : ℕ) (m : Largest) : Type 0 where
  ordered : m.second ≤ m.first
  kept : l.first ≤ m.first
  reached : a ≤ m.first
  as-much : both l ≤ both m
  with_it : l.first + a ≤ both m
  first-from : (m.first ≡ l.first) ⊎ (m.first ≡ a)
  both-from : (both m ≡ both l) ⊎ (both m ≡ l.first + a)

feeds : (l : Largest) (a : ℕ) → l.second ≤ l.first → Feeds l a (largest_with l a)
unfolding both largest_with
feeds l a o =
    record {
      ordered = omega arith;
      kept = omega arith;
      reached = omega arith;
      as-much = omega arith;
      with_it = omega arith;
      first-from = ⊎_elim (λ h. inr (omega arith)) (λ h. inl (omega arith)) (lt-or-ge l.first a);
      both-from = ⊎_elim (λ h. inr (omega arith)) (λ h. inl (omega arith)) (lt-or-ge l.second a);
    }

-- no two of the amounts are more than the two largest together, nor is one beside an earlier first
record Tops (l : Largest) (s : List ℕ) (n : ℕ) : Type 0 where
  earlier : both l ≤ n
  one : (q : ℕ) → l.first + get_or s q 0 ≤ n
  two : (q r : ℕ) → q ≢ r → get_or s q 0 + get_or s r 0 ≤ n

module _ {l : Largest} {a : ℕ} {s : List ℕ} {m : Largest} {n : ℕ} (f : Feeds l a m) (t : Tops m s n) where
  tops-one : (q : ℕ) → l.first + get_or (a ∷ s) q 0 ≤ n
  tops-one zero = omega (arith, f.with_it, t.earlier)
  tops-one (suc q) = omega (arith, f.kept, t.one q)

  tops-two : (q r : ℕ) → q ≢ r → get_or (a ∷ s) q 0 + get_or (a ∷ s) r 0 ≤ n
  tops-two zero zero h = absurd (h refl)
  tops-two zero (suc r) h = omega (arith, f.reached, t.one r)
  tops-two (suc q) zero h = omega (arith, f.reached, t.one q)
  tops-two (suc q) (suc r) h = t.two q r (λ e. h (ap suc e))

  tops-more : Tops l (a ∷ s) n
  tops-more = record { earlier = omega (arith, f.as-much, t.earlier); one = tops-one; two = tops-two }

tops : (l : Largest) (s : List ℕ) → l.second ≤ l.first → Tops l s (both (largest_after l s))
unfolding largest_after both
tops l [] o = record { earlier = omega arith; one = λ q. omega arith; two = λ q r h. omega arith }
tops l (a ∷ s) o =
    let f = feeds l a o in
    tops-more f (tops (largest_with l a) s f.ordered)

-- the two largest together come from earlier ones and from the amounts, or from two of the amounts
data Sources (l : Largest) (s : List ℕ) (n : ℕ) : Type 0 where
  earlier : n ≡ both l → Sources l s n
  one : (q : ℕ) → n ≡ l.first + get_or s q 0 → Sources l s n
  two : (q r : ℕ) → q ≢ r → n ≡ get_or s q 0 + get_or s r 0 → Sources l s n

sources-more : {l m : Largest} {a n : ℕ} {s : List ℕ} → Feeds l a m → Sources m s n → Sources l (a ∷ s) n
sources-more f (earlier e) = ⊎_elim (λ b. earlier (e ∙ b)) (λ b. one 0 (e ∙ b)) f.both-from
sources-more f (one q e) =
    ⊎_elim (λ b. one (suc q) (omega arith)) (λ b. two 0 (suc q) (λ z. absurd (omega arith)) (omega arith)) f.first-from
sources-more f (two q r h e) = two (suc q) (suc r) (λ z. h (omega arith)) e

sources : (l : Largest) (s : List ℕ) → l.second ≤ l.first → Sources l s (both (largest_after l s))
unfolding largest_after
sources l [] o = earlier refl
sources l (a ∷ s) o =
    let f = feeds l a o in
    sources-more f (sources (largest_with l a) s f.ordered)

-- the two largest of some amounts, together
unfoldable pub largest_two : List ℕ → ℕ
largest_two s = both (largest_after no_largest s)

module _ (s : List ℕ) where
  all-tops : Tops no_largest s (largest_two s)
  unfolding no_largest largest_two
  all-tops = tops no_largest s (omega arith)

  pub largest-one : (q : ℕ) → get_or s q 0 ≤ largest_two s
  unfolding no_largest
  largest-one q = omega (arith, all-tops.one q)

  pub largest-two : (q r : ℕ) → q ≢ r → get_or s q 0 + get_or s r 0 ≤ largest_two s
  largest-two = all-tops.two

  past : (q : ℕ) → length s ≤ q → get_or s q 0 ≡ 0
  past q h = get_or-eq_default s 0 h

  -- two places hold the two largest; one past the end holds 0
  pub largest-places : (q : ℕ) × (r : ℕ) × (q ≢ r) × (largest_two s ≡ get_or s q 0 + get_or s r 0)
  unfolding no_largest both largest_two
  largest-places = elim (sources no_largest s (omega arith)) [
    | earlier e ↦ (length s, suc (length s), (λ z. absurd (omega arith)), omega (arith, past (length s) (omega arith), past (suc (length s)) (omega arith)))
    | one q e ↦ (q, suc (q + length s), (λ z. absurd (omega arith)), omega (arith, past (suc (q + length s)) (omega arith)))
    | two q r h e ↦ (q, r, h, e)
  ]
