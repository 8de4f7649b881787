-- The test fed one amount a call, by document 02, F-5: "begun with a place and a need, given one amount a call, then asked".
-- What is kept between calls is stated number by number. It need not be believed: what asking promises, at the end, says what it
-- is for, whatever is kept. Assumes nothing.
use Rattle.std.specs.Prelude.{ℕ, ◌+◌, ◌*◌, ◌≡◌, Bool, cond, ◌&&◌, List, [], ◌∷◌, eqb, ltb, leb}
use Rattle.pivotal.specs.Test.{largest_with, no_largest, most_amounts, most_amount, tested, TestOutcome}
use Rattle.pivotal.specs.declared.feeding.FedTest.{FedTest}

unfoldable pub begun : ℕ → ℕ → FedTest
begun p need = record { place = p; need = need; count = 0; total = 0; largest = no_largest }

-- 32 amounts of at most 10^12 come to no more: a larger total was not made by feeding, and is not added to
abbrev pub most_total : ℕ
most_total = most_amounts * most_amount

-- whether one amount more is within the limits
unfoldable pub takes : FedTest → ℕ → Bool
takes t a = ltb t.count most_amounts && leb a most_amount && leb t.total most_total

-- what the next amount is to the others: nothing where it is the own one
unfoldable pub other : FedTest → ℕ → ℕ
other t a = cond (eqb t.count t.place) 0 a

-- with one amount more; past the limits the count is past them for good
unfoldable pub fed : FedTest → ℕ → FedTest
fed t a =
    cond (takes t a)
    (record {
      place = t.place;
      need = t.need;
      count = t.count + 1;
      total = t.total + other t a;
      largest = largest_with t.largest (other t a);
    })
    (record { place = t.place; need = t.need; count = most_amounts + 1; total = t.total; largest = t.largest })

unfoldable pub fed_all : FedTest → List ℕ → FedTest
fed_all t [] = t
fed_all t (a ∷ s) = fed_all (fed t a) s

-- "For any list, what it answers when asked is the test's answer on that list, 11 included. What a state not made in this way
-- answers is left open."
abbrev pub Answers : FedTest → TestOutcome → Type 0
Answers t o = (s : List ℕ) (p need : ℕ) → t ≡ fed_all (begun p need) s → o ≡ tested s p need
