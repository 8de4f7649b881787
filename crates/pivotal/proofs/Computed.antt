-- Tests that are fed, computed from the definitions: document 01's starred amounts, a place that becomes valid late, and amounts past
-- the limits, which stay in mind. Assumes nothing.
use Prim.Native.Nat.{ℕ, ◌+◌, ◌*◌}
use mathlib.Core.Path.{◌≡◌, refl}
use mathlib.Core.List.{List, [], ◌∷◌}
use lib.ListN.{replicate}
use Rattle.pivotal.specs.Fed.{begun, takes, other, fed, fed_all}
use Rattle.pivotal.specs.Test.{no_largest, largest_with, pivotal, most_amounts, most_amount, TestOutcome}
use Rattle.pivotal.specs.promises.Asking.{left_kept, asked}
use Rattle.pivotal.proofs.Limits.{refused, accepted}

-- what a test at the place p answers, fed the amounts s
abbrev answers : ℕ → ℕ → List ℕ → TestOutcome
answers p need s = asked (fed_all (begun p need) s)

pub fed-examples :
    (fed_all (begun 3 2) (4 ∷ 3 ∷ 2 ∷ 1 ∷ []) ≡ record { place = 3; need = 2; count = 4; total = 9; largest = record { first = 4; second = 3 } })
    × (answers 3 2 [] ≡ refused)
    × (answers 3 2 (4 ∷ 3 ∷ []) ≡ refused)
    × (answers 3 2 (4 ∷ 3 ∷ 2 ∷ 1 ∷ []) ≡ accepted 2 2)
    × (answers 1 1 (5 ∷ 5 ∷ []) ≡ accepted 0 1)
    × (answers 0 1 (1 ∷ 9 ∷ 2 ∷ 7 ∷ []) ≡ accepted 2 1)
    × (answers 31 0 (replicate most_amounts most_amount) ≡ accepted (29 * most_amount) 0)
    × (answers 0 0 (replicate 33 1) ≡ refused)
    × (answers 0 0 (replicate 257 1) ≡ refused)
    × (answers 0 0 ((most_amount + 1) ∷ 1 ∷ 1 ∷ []) ≡ refused)
unfolding begun takes other fed fed_all no_largest largest_with pivotal left_kept asked
fed-examples = (refl, refl, refl, refl, refl, refl, refl, refl, refl, refl)
