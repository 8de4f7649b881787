-- Any list can be fed: what is kept of its amounts, one after the other, and that asking then answers what the test of the list
-- does. Assumes nothing.
use Prim.Native.Nat.{ℕ, ◌+◌, ◌≤◌, ◌<◌}
use mathlib.Core.Path.{◌≡◌, refl, sym, ◌∙◌, ap}
use mathlib.Core.Logic.{◌⊎◌, inl, inr}
use mathlib.Core.Bool.{Bool, true, false, cond, ◌&&◌, and-false}
use mathlib.Core.List.{List, [], ◌∷◌, ◌++◌, append_assoc, append-nil}
use native.Mathlib.Omega.{arith}
use lib.Dec.{eqb, ltb, leb}
use lib.ListN.{length, set, get_or, drop}
use borrow.Author.Tests.{ltb-true, leb-true, lt-ltb, le-ltb, le-leb, lt-leb}
use Rattle.base.proofs.Lists.{drop-next, drop-end}
use Rattle.base.proofs.Tests.{lt-or-ge, and-fst, and-snd}
use Rattle.pivotal.specs.Test.{total, no_largest, largest_with, largest_after, left, most_amounts, most_amount, too_large, tested, TestOutcome}
use Rattle.pivotal.specs.Fed.{begun, most_total, takes, other, fed, fed_all, Answers}
use Rattle.pivotal.specs.promises.Asking.{left_kept, asked}
use Rattle.pivotal.specs.declared.feeding.FedTest.{FedTest}
use Rattle.pivotal.specs.declared.feeding.Largest.{Largest}
use Rattle.pivotal.proofs.Amounts.{total-set}
use Rattle.pivotal.proofs.Limits.{Limited, Unlimited, too_many, one_too_large, refused, accepted, total-small, unlimited-refused, nowhere-refused, tested-within}
use Rattle.pivotal.proofs.OneMore.{more, total-more, largest-more, length_more, set_more, large-more, unlimited-more}

-- what is kept of amounts that are within the limits
abbrev kept : ℕ → ℕ → List ℕ → FedTest
kept p need s =
    record { place = p; need = need; count = length s; total = total (set s p 0); largest = largest_after no_largest (set s p 0) }

-- what is kept of any amounts: all of that, or that they are past the limits
data Kept (p need : ℕ) (s : List ℕ) (t : FedTest) : Type 0 where
  within : Limited s → t ≡ kept p need s → Kept p need s t
  past : Unlimited s → t.count ≡ most_amounts + 1 → Kept p need s t

-- an amount that is taken, and one that isn't
module _ (t : FedTest) (a : ℕ) where
  pub taken-within : takes t a ≡ true → (t.count < most_amounts) × (a ≤ most_amount) × (t.total ≤ most_total)
  unfolding takes
  taken-within e =
      let counted = ltb t.count most_amounts in
      let small = leb a most_amount in
      let total_left = leb t.total most_total in
      let both = and-fst (counted && small) total_left e in
      (ltb-true t.count most_amounts (and-fst counted small both), leb-true a most_amount (and-snd counted small both), leb-true t.total most_total (and-snd (counted && small) total_left e))

  pub other-small : other t a ≤ a
  unfolding other
  other-small = go (eqb t.count t.place)
    where
      go : (own : Bool) → cond own 0 a ≤ a
      go true = omega arith
      go false = omega arith

  pub fed-taken :
      takes t a ≡ true → (o : ℕ) (l : Largest) → o ≡ other t a → l ≡ largest_with t.largest o →
      record { place = t.place; need = t.need; count = t.count + 1; total = t.total + o; largest = l } ≡ fed t a
  unfolding fed
  fed-taken e o l f g = simp (e, g, f)

  pub fed-past :
      takes t a ≡ false →
      record { place = t.place; need = t.need; count = most_amounts + 1; total = t.total; largest = t.largest } ≡ fed t a
  unfolding fed
  fed-past e = simp e

module _ (p need : ℕ) (s : List ℕ) (a : ℕ) where
  module _ (limited : Limited s) where
    kept-total : leb (total (set s p 0)) most_total ≡ true
    kept-total = le-leb (total (set s p 0)) most_total (omega (arith, total-set s p, total-small s limited.small, limited.few))

    module _ (few : length s < most_amounts) (small : a ≤ most_amount) where
      kept-taken : takes (kept p need s) a ≡ true
      unfolding takes
      kept-taken = simp (lt-ltb (length s) most_amounts few, le-leb a most_amount small, kept-total)

      kept_next : fed (kept p need s) a ≡ kept p need (more s a)
      unfolding other
      kept_next =
          let counted = cond (eqb (length s) p) 0 a in
          sym (fed-taken (kept p need s) a kept-taken counted _ refl refl)
          ∙ rw (set_more s a p, total-more (set s p 0) counted, largest-more no_largest (set s p 0) counted, length_more s a)

      limited-more : Limited (more s a)
      limited-more = record { few = omega (arith, length_more s a); small = rw (large-more s a, limited.small) (le-ltb most_amount a small) }

    kept-large : most_amount < a → takes (kept p need s) a ≡ false
    unfolding takes
    kept-large h = simp (lt-leb a most_amount h, and-false)

    kept-many : most_amounts ≤ length s → takes (kept p need s) a ≡ false
    unfolding takes
    kept-many h = simp (le-ltb (length s) most_amounts h)

  past_more : (t : FedTest) → Unlimited (more s a) → takes t a ≡ false → Kept p need (more s a) (fed t a)
  past_more t u e = past u (ap (λ (x : FedTest). x.count) (sym (fed-past t a e)))

  spent : (t : FedTest) → t.count ≡ most_amounts + 1 → takes t a ≡ false
  unfolding takes
  spent t e = simp (le-ltb t.count most_amounts (omega arith))

  -- one amount more
  kept_more : (t : FedTest) → Kept p need s t → Kept p need (more s a) (fed t a)
  kept_more t (past u e) = past_more t (unlimited-more s a u) (spent t e)
  kept_more t (within limited e) = rw e (go (lt-or-ge (length s) most_amounts) (lt-or-ge most_amount a))
    where
      go :
          (length s < most_amounts) ⊎ (most_amounts ≤ length s) → (most_amount < a) ⊎ (a ≤ most_amount) →
          Kept p need (more s a) (fed (kept p need s) a)
      go (inr h) _ = past_more (kept p need s) (too_many (omega (arith, length_more s a))) (kept-many limited h)
      go (inl few) (inl h) =
          past_more (kept p need s) (one_too_large (rw (large-more s a, limited.small) (lt-ltb most_amount a h))) (kept-large limited h)
      go (inl few) (inr small) = within (limited-more limited few small) (kept_next limited few small)

-- all amounts of a list behind those that were fed before
kept-all : (p need : ℕ) (before s : List ℕ) (t : FedTest) → Kept p need before t → Kept p need (before ++ s) (fed_all t s)
unfolding fed_all
kept-all p need before [] t k = rw append-nil k
kept-all p need before (a ∷ s) t k =
    rw (← append_assoc before (a ∷ []) s) (kept-all p need (more before a) s (fed t a) (kept_more p need before a t k))

-- what asking answers, by the count
module _ (t : FedTest) where
  pub asked-past : most_amounts < t.count → asked t ≡ refused
  unfolding asked
  asked-past h = simp (lt-ltb most_amounts t.count h)

  module _ (few : t.count ≤ most_amounts) where
    pub asked-nowhere : t.count ≤ t.place → asked t ≡ refused
    unfolding asked
    asked-nowhere h = simp (le-ltb most_amounts t.count few, le-leb t.count t.place h)

    pub asked-within : t.place < t.count → asked t ≡ accepted (left_kept t) t.need
    unfolding asked
    asked-within h = simp (le-ltb most_amounts t.count few, lt-leb t.count t.place h)

module _ (s : List ℕ) (p need : ℕ) where
  fed-kept : Kept p need s (fed_all (begun p need) s)
  unfolding begun total too_large largest_after
  fed-kept = kept-all p need [] s (begun p need) (within (record { few = omega arith; small = refl }) refl)

  asked-kept : Limited s → (p < length s) ⊎ (length s ≤ p) → asked (kept p need s) ≡ tested s p need
  unfolding left_kept left
  asked-kept limited (inl h) = asked-within (kept p need s) limited.few h ∙ sym (tested-within s p need limited h)
  asked-kept limited (inr h) = asked-nowhere (kept p need s) limited.few h ∙ sym (nowhere-refused s p need limited h)

  -- "For any list, what it answers when asked is the test's answer on that list, 11 included."
  pub asked_tested : asked (fed_all (begun p need) s) ≡ tested s p need
  asked_tested = go (fed_all (begun p need) s) fed-kept
    where
      go : (t : FedTest) → Kept p need s t → asked t ≡ tested s p need
      go t (past u e) = asked-past t (omega arith) ∙ sym (unlimited-refused s p need u)
      go t (within limited e) = ap asked e ∙ asked-kept limited (lt-or-ge p (length s))

-- so an answer that goes by what is kept is the one promised
pub answers-asked : {t : FedTest} {o : TestOutcome} → o ≡ asked t → Answers t o
answers-asked e s p need f = e ∙ ap asked f ∙ asked_tested s p need

-- a run of amounts fed from its start
module _ (s : List ℕ) (i : ℕ) (t : FedTest) where
  pub fed-next : i < length s → fed_all t (drop i s) ≡ fed_all (fed t (get_or s i 0)) (drop (i + 1) s)
  unfolding fed_all
  fed-next h = rw (drop-next 0 i s h)

  pub fed-end : length s ≤ i → fed_all t (drop i s) ≡ t
  unfolding fed_all
  fed-end h = rw (drop-end i s h)
