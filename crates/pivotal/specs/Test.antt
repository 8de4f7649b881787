-- The pivotal test, by document 01, "Market and verdict", point 5, and refusal 11: amounts, one per supplier, the place
-- of the supplier tested, and the need. To take a supplier away is to put 0 in its place.
-- Assumes nothing; that left is the least that any removal leaves is shown in `proofs/Least`.
use Rattle.std.specs.Prelude.{ℕ, ◌+◌, ◌-◌, ◌^◌, min, max, Bool, false, cond, ◌||◌, List, [], ◌∷◌, ltb, leb, length, set, Option, Some, None}
use Rattle.tables.specs.Refusals.{bare_refusal}
use Rattle.tables.specs.declared.files.Refusal.{Refusal}
use Rattle.pivotal.specs.declared.Finding.{Finding}
use Rattle.pivotal.specs.declared.Tested.{Tested}
use Rattle.pivotal.specs.declared.Finding.TheVariants.{Passes, Fails}
use Rattle.pivotal.specs.declared.feeding.Largest.{Largest}

-- the verdicts: the test cannot be performed, passed, failed; and their letters
pub data Verdict : Type 0 where
  U : Verdict
  P : Verdict
  F : Verdict

abbrev pub verdict_letter : Verdict → ℕ
verdict_letter U = 0x55
verdict_letter P = 0x50
verdict_letter F = 0x46

unfoldable pub total : List ℕ → ℕ
total [] = 0
total (a ∷ s) = a + total s

-- the two largest of no amounts; it is 0 where fewer exist
unfoldable pub no_largest : Largest
no_largest = record { first = 0; second = 0 }

-- the two largest with one amount more: the lesser of it and the first may be the second
unfoldable pub largest_with : Largest → ℕ → Largest
largest_with l a = record { first = max l.first a; second = max l.second (min l.first a) }

unfoldable pub largest_after : Largest → List ℕ → Largest
largest_after l [] = l
largest_after l (a ∷ s) = largest_after (largest_with l a) s

-- "left is the relevant supply without it and without its two largest other suppliers (fewer where fewer exist)"
unfoldable pub left : List ℕ → ℕ → ℕ
left s p =
    let others = set s p 0 in
    let largest = largest_after no_largest others in
    total others - (largest.first + largest.second)

-- "F when left is below the need, else P"
unfoldable pub pivotal : ℕ → ℕ → Bool
pivotal left need = ltb left need

abbrev pub test_verdict : ℕ → ℕ → Verdict
test_verdict left need = cond (pivotal left need) F P

abbrev pub most_amounts : ℕ
most_amounts = 32

abbrev pub most_amount : ℕ
most_amount = 10 ^ 12

-- whether there is an amount above the most
unfoldable pub too_large : List ℕ → Bool
too_large [] = false
too_large (a ∷ s) = ltb most_amount a || too_large s

-- refusal 11: "over 32 amounts, an amount above 10^12, or no such place"
unfoldable pub out_of_bounds : List ℕ → ℕ → Bool
out_of_bounds s p = ltb most_amounts (length s) || too_large s || leb (length s) p

-- what a call of the test gives, by this paper's values: number, file and place, what is left and the letter of the verdict
pub record TestOutcome : Type 0 where
  pub told : Refusal
  pub left : ℕ
  pub verdict : ℕ

-- these for each answer
abbrev pub finding : Finding → Verdict
finding Passes = P
finding Fails = F

abbrev pub test_outcome : Option Tested → TestOutcome
test_outcome (Some t) = record { told = bare_refusal 0; left = t.left; verdict = verdict_letter (finding t.found) }
test_outcome None = record { told = bare_refusal 11; left = 0; verdict = 0 }

-- "it answers left and P or F", or refuses
unfoldable pub tested : List ℕ → ℕ → ℕ → TestOutcome
tested s p need =
    cond (out_of_bounds s p)
    (record { told = bare_refusal 11; left = 0; verdict = 0 })
    (record { told = bare_refusal 0; left = left s p; verdict = verdict_letter (test_verdict (left s p) need) })
