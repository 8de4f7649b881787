-- What is chosen for the units of supply, each with its test, is what the study's definition decides. Assumes nothing.
use Rattle.std.specs.Prelude.{Result}
use Prim.Native.Nat.{ℕ}
use mathlib.Core.Path.{◌≡◌, refl, ◌∙◌, ap}
use mathlib.Core.List.{List, [], ◌∷◌, map}
use lib.ListN.{take}
use Rattle.tables.specs.Rows.{SupplyRow, ScheduleRow}
use Rattle.tables.specs.declared.answer.AnswerRow.{AnswerRow}
use Rattle.tables.specs.declared.constraint.ConstraintRow.{ConstraintRow}
use Rattle.supply.specs.Supply.{units}
use Rattle.outcome.specs.Day.{RunningUnit}
use Rattle.outcome.specs.Decision.{choice_of, decided_row, decided, no_cost_schedule}
use Rattle.decision.specs.declared.deciding.NoCostSchedule.{NoCostSchedule}
use Rattle.decision.specs.promises.Choosing.{row_chosen, tested_units, ChoosesRows}
use Rattle.decision.specs.promises.Deciding.{DecidesRows}
use Rattle.decision.specs.promises.Testing.{unit_test}
use Rattle.decision.specs.promises.Units.{UnitsOf}
use Rattle.decision.specs.declared.testing.UnitTest.{UnitTest}

module _ (c : ConstraintRow) (supply : List SupplyRow) (scheduled : List ScheduleRow) (running : List RunningUnit) where
  tested-units : (us : List ℕ) → tested_units (map (unit_test c supply) us) ≡ us
  unfolding unit_test
  tested-units [] = refl
  tested-units (u ∷ us) = ap (λ (more : List ℕ). u ∷ more) (tested-units us)

  chosen-rows :
      (us : List ℕ) → map (row_chosen c.hour scheduled running) (map (unit_test c supply) us) ≡ map (decided_row c supply scheduled running supply) us
  unfolding unit_test row_chosen decided_row choice_of
  chosen-rows [] = refl
  chosen-rows (u ∷ us) = ap (λ (more : List AnswerRow). decided_row c supply scheduled running supply u ∷ more) (chosen-rows us)

  pub decides-rows :
      (k : ℕ) (us : List ℕ) → UnitsOf k supply us → (ts : List UnitTest) → ts ≡ map (unit_test c supply) (take k us) →
      (new : List ℕ) (r : Result (Unit {0}) NoCostSchedule) → ChoosesRows c.hour scheduled running ts k new r →
      DecidesRows c supply scheduled running k new r
  unfolding no_cost_schedule decided
  decides-rows k us of-supply ts tested new r chosen =
      record {
        answers = chosen.answers ∙ rw (tested, of-supply.listed, tested-units);
        rows = λ e. chosen.rows e ∙ rw (tested, of-supply.listed) (chosen-rows (units supply));
      }
