-- Laws of the limits of refusal 11: amounts that are within them, amounts that are not, and what the test answers of each.
-- Assumes nothing.
use Rattle.std.specs.Prelude.{None, Some}
use Rattle.pivotal.specs.declared.Tested.{Tested}
use Prim.Native.Nat.{ℕ, ◌*◌, ◌≤◌, ◌<◌}
use mathlib.Core.Path.{◌≡◌, refl, ◌∙◌, ap}
use mathlib.Core.Bool.{Bool, true, false, cond}
use mathlib.Core.List.{List, [], ◌∷◌}
use native.Mathlib.Omega.{arith}
use lib.Dec.{ltb}
use lib.ListN.{length}
use borrow.Author.Tests.{lt-ltb, le-ltb, ltb-false, le-leb, lt-leb}
use Rattle.base.proofs.Tests.{or_fst, or_snd}
use Rattle.tables.specs.Refusals.{bare_refusal}
use Rattle.pivotal.specs.Test.{P, F, verdict_letter, total, left, pivotal, test_verdict, most_amounts, most_amount, too_large, out_of_bounds, TestOutcome, finding, test_outcome, tested}
use Rattle.pivotal.specs.declared.Finding.{Finding}
use Rattle.pivotal.specs.declared.Finding.TheVariants.{Passes, Fails}

-- amounts that are few enough and small enough
pub record Limited (s : List ℕ) : Type 0 where
  pub few : length s ≤ most_amounts
  pub small : too_large s ≡ false

-- amounts that are not
pub data Unlimited (s : List ℕ) : Type 0 where
  too_many : most_amounts < length s → Unlimited s
  one_too_large : too_large s ≡ true → Unlimited s

-- amounts that are small enough come to so much at most
pub total-small : (s : List ℕ) → too_large s ≡ false → total s ≤ length s * most_amount
unfolding total too_large
total-small [] e = omega arith
total-small (a ∷ s) e =
    omega (arith, ltb-false most_amount a (or_fst (ltb most_amount a) (too_large s) e), total-small s (or_snd (ltb most_amount a) (too_large s) e))

-- what the test answers: refused, or so much left and the verdict by it
abbrev pub refused : TestOutcome
refused = record { told = bare_refusal 11; left = 0; verdict = 0 }

abbrev pub accepted : ℕ → ℕ → TestOutcome
accepted l need = record { told = bare_refusal 0; left = l; verdict = verdict_letter (test_verdict l need) }

module _ (s : List ℕ) (p need : ℕ) where
  pub unlimited-refused : Unlimited s → tested s p need ≡ refused
  unfolding tested out_of_bounds
  unlimited-refused (too_many h) = simp (lt-ltb most_amounts (length s) h)
  unlimited-refused (one_too_large e) = go (ltb most_amounts (length s)) refl
    where
      go : (t : Bool) → ltb most_amounts (length s) ≡ t → tested s p need ≡ refused
      go true f = simp f
      go false f = simp (f, e)

  module _ (limited : Limited s) where
    pub nowhere-refused : length s ≤ p → tested s p need ≡ refused
    unfolding tested out_of_bounds
    nowhere-refused h = simp (le-ltb most_amounts (length s) limited.few, limited.small, le-leb (length s) p h)

    pub tested-within : p < length s → tested s p need ≡ accepted (left s p) need
    unfolding tested out_of_bounds
    tested-within h = simp (le-ltb most_amounts (length s) limited.few, limited.small, lt-leb (length s) p h)

-- what an answer says where the test is not refused
module _ (s : List ℕ) (p need : ℕ) (limited : Limited s) (h : p < length s) where
  pub answered : (t : Tested) → test_outcome (Some t) ≡ tested s p need → (t.left ≡ left s p) × (finding t.found ≡ test_verdict (left s p) need)
  answered t e =
      let same = e ∙ tested-within s p need limited h in
      (ap (λ (o : TestOutcome). o.left) same, go t.found (pivotal (left s p) need) (ap (λ (o : TestOutcome). o.verdict) same))
    where
      go : (v : Finding) (t : Bool) → verdict_letter (finding v) ≡ verdict_letter (cond t F P) → finding v ≡ cond t F P
      go Passes false f = refl
      go Passes true f = absurd (omega (arith, f))
      go Fails true f = refl
      go Fails false f = absurd (omega (arith, f))

  pub not-refused : test_outcome None ≡ tested s p need → ⊥
  not-refused e = omega (arith, ap (λ (o : TestOutcome). o.told.number) (e ∙ tested-within s p need limited h))
