-- Laws of a unit's choice by the day's kind for it, and of laying down its row. Assumes nothing.
use Rattle.std.specs.Prelude.{None, Option, Some}
use Prim.Native.Nat.{ℕ, ◌≤◌}
use mathlib.Core.Path.{◌≡◌, refl, sym, ◌∙◌, ap}
use mathlib.Core.Bool.{Bool, true, false, not}
use mathlib.Core.List.{List, [], ◌∷◌, ◌++◌}
use native.Mathlib.Omega.{arith}
use lib.ListN.{length, set, drop, length-drop}
use Rattle.base.proofs.Tests.{false-true}
use Rattle.tables.specs.Rows.{ScheduleRow}
use Rattle.tables.specs.declared.files.Kind.{Kind}
use Rattle.choice.specs.Choosing.{choice}
use Rattle.choice.specs.Schedules.{on_cost, has_any, schedules}
use Rattle.choice.specs.declared.choices.Choice.{Choice}
use Rattle.tables.specs.declared.files.Kind.TheVariants.{C}
use Rattle.choice.specs.declared.kinds.Kinds.TheVariants.{OnlyC}
use Rattle.cells.specs.promises.Views.{answer_width}
use Rattle.outcome.specs.Decision.{no_choice, chosen_or}
use Rattle.decision.specs.promises.Choosing.{lacks_cost_on, row_from, answer_cells, RowChosen}
use Rattle.decision.specs.declared.testing.UnitTest.{UnitTest}

-- 21 asks only for units that run on cost
module _ (h : ℕ) (rows : List ScheduleRow) (day : Option Kind) where
  pub lacks-none : (k : Option Kind) → day ≡ k → on_cost k ≡ false → false ≡ lacks_cost_on day h rows
  unfolding lacks_cost_on
  lacks-none k f g = rw (f, g)

  pub lacks-on-cost : day ≡ Some C → {r : Bool} → r ≡ has_any OnlyC (schedules h rows) → not r ≡ lacks_cost_on day h rows
  unfolding lacks_cost_on
  lacks-on-cost f g = rw (f, g)

-- what was chosen, or nothing
module _ {r made : Option Choice} (is : r ≡ made) where
  pub chosen-one : (s : Choice) → r ≡ Some s → s ≡ chosen_or made
  chosen-one s f = rw (← is, f)

  pub chosen-nothing : r ≡ None → no_choice ≡ chosen_or made
  chosen-nothing f = rw (← is, f)

-- a unit's row: not laid down where 21 names the unit, else by the schedule chosen
module _
    (h : ℕ) (rows : List ScheduleRow) (day : Option Kind) (t : UnitTest) (before after : List ℕ) {lacks : Bool}
    (l : lacks ≡ lacks_cost_on day h rows)
  where
    pub row-without-cost : lacks ≡ true → after ≡ before → RowChosen h rows day t before after false
    row-without-cost e f = record { answers = sym (ap not (sym l ∙ e)); laid = λ z. false-true z; same_length = ap length f }

    pub row-chosen :
        lacks ≡ false → answer_width ≤ length before → (s : Choice) → s ≡ chosen_or (choice day t.exposed h rows) →
        after ≡ answer_cells (row_from t s) ++ drop answer_width before → RowChosen h rows day t before after true
    row-chosen e room s chosen laid =
        record {
          answers = sym (ap not (sym l ∙ e));
          laid = λ _. rw (← chosen) laid;
          same_length = ap length laid ∙ omega (arith, length-drop 7 before);
        }

-- seven stores from the start of a run
pub laid-seven :
    (row : List ℕ) (a b c d e f g : ℕ) → 7 ≤ length row →
    set (set (set (set (set (set (set row 0 a) 1 b) 2 c) 3 d) 4 e) 5 f) 6 g ≡ a ∷ b ∷ c ∷ d ∷ e ∷ f ∷ g ∷ drop 7 row
laid-seven (x0 ∷ x1 ∷ x2 ∷ x3 ∷ x4 ∷ x5 ∷ x6 ∷ more) a b c d e f g h = refl
laid-seven (x0 ∷ x1 ∷ x2 ∷ x3 ∷ x4 ∷ x5 ∷ []) a b c d e f g h = absurd (omega arith)
laid-seven (x0 ∷ x1 ∷ x2 ∷ x3 ∷ x4 ∷ []) a b c d e f g h = absurd (omega arith)
laid-seven (x0 ∷ x1 ∷ x2 ∷ x3 ∷ []) a b c d e f g h = absurd (omega arith)
laid-seven (x0 ∷ x1 ∷ x2 ∷ []) a b c d e f g h = absurd (omega arith)
laid-seven (x0 ∷ x1 ∷ []) a b c d e f g h = absurd (omega arith)
laid-seven (x0 ∷ []) a b c d e f g h = absurd (omega arith)
laid-seven [] a b c d e f g h = absurd (omega arith)
