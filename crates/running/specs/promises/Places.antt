-- Running units by their places. Document 01, "The day": "Release takes a unit out and changes nothing else; its place can be
-- used again." Assumes nothing.
use Rattle.std.specs.Prelude.{ℕ, zero, suc, not, cond, List, [], ◌∷◌, eqb, ltb, length, Option, Some, None}
use Rattle.outcome.specs.Day.{RunningUnit}
use Rattle.base.specs.promises.Counting.{leading}

-- how many units stand before the first of this number: its place, or their count where none has it
unfoldable pub unit_place : ℕ → List RunningUnit → ℕ
unit_place u rs = leading (λ (r : RunningUnit). not (eqb r.unit u)) rs

-- that place, if there is one
abbrev pub place_in : ℕ → List RunningUnit → Option ℕ
place_in u rs = cond (ltb (unit_place u rs) (length rs)) (Some (unit_place u rs)) None

-- a list without what stands at a place
unfoldable pub removed : {A : Type 0} → ℕ → List A → List A
removed i [] = []
removed zero (x ∷ xs) = xs
removed (suc i) (x ∷ xs) = x ∷ removed i xs
