-- From what the test answers, of a run of amounts or fed, to the numbers that host programs see. Assumes nothing.
use Rattle.std.specs.Prelude.{None, Option, Some}
use Rattle.pivotal.specs.declared.Tested.{Tested}
use Prim.Native.Nat.{ℕ}
use mathlib.Core.Path.{◌≡◌, refl, ◌∙◌, ap}
use mathlib.Core.List.{List}
use lib.Dec.{eqb}
use Rattle.base.specs.promises.Counting.{one}
use Rattle.pivotal.specs.Fed.{Answers}
use Rattle.pivotal.specs.Test.{F, verdict_letter, finding, TestOutcome, test_outcome}
use Rattle.pivotal.specs.declared.feeding.FedTest.{FedTest}
use Rattle.capping.specs.Exports.{test_number, test_left}
use Rattle.capping.specs.Fed.{fed_in, FedTold}

-- by what was answered
module _ {a : Option Tested} where
  module _ {t : Tested} (e : a ≡ Some t) where
    pub tested-number : {n : ℕ} → n ≡ one (eqb (verdict_letter (finding t.found)) (verdict_letter F)) → n ≡ test_number (test_outcome a)
    unfolding test_number
    tested-number g = rw e g

    pub tested-left : (old : ℕ) → t.left ≡ test_left (test_outcome a) old
    unfolding test_left
    tested-left old = rw e refl

  module _ (e : a ≡ None) where
    pub refused-number : 11 ≡ test_number (test_outcome a)
    unfolding test_number
    refused-number = rw e refl

    pub refused-left : (old : ℕ) → old ≡ test_left (test_outcome a) old
    unfolding test_left
    refused-left old = rw e refl

-- by the definition
module _ {o : TestOutcome} {r new : ℕ} (old : ℕ) (number : r ≡ test_number o) (left : new ≡ test_left o old) where
  pub test-told : {q : TestOutcome} → o ≡ q → (r ≡ test_number q) × (new ≡ test_left q old)
  test-told e = (number ∙ ap test_number e, left ∙ ap (λ (x : TestOutcome). test_left x old) e)

  pub fed-told : {t : FedTest} {cells : List ℕ} → t ≡ fed_in cells → Answers t o → FedTold cells old new r
  fed-told is answers s p need e = test-told (answers s p need (is ∙ ap fed_in e))
