-- The row that is previewed for a unit: the one that a study decides of it, where the supply file has the unit, and else none.
-- Assumes nothing.
use Rattle.std.specs.Prelude.{None, Some}
use Prim.Native.Nat.{ℕ}
use mathlib.Core.Path.{◌≡◌, refl, sym, ◌∙◌}
use mathlib.Core.Logic.{⊎_elim}
use mathlib.Core.Bool.{true, false, cond}
use mathlib.Core.List.{List, [], ◌∷◌, map}
use borrow.Author.Tests.{eq-eqb, ne_eqb}
use Rattle.base.specs.Rising.{among}
use Rattle.base.specs.Search.{any}
use Rattle.base.proofs.Finds.{find_none, find-here, find-later}
use Rattle.base.proofs.Tests.{eq-or-ne}
use Rattle.checking.specs.Files.{Files, supply_of}
use Rattle.supply.specs.Supply.{units}
use Rattle.supply.proofs.UnitLaws.{among-units}
use Rattle.outcome.specs.Day.{DayView}
use Rattle.outcome.specs.Decision.{of_unit}
use Rattle.outcome.specs.Preview.{row_for}
use Rattle.outcome.specs.Study.{study_rows}
use Rattle.outcome.proofs.RowsToBytes.{study_row, study-row-unit, study-rows}

module _ (d : DayView) (f : Files) (u : ℕ) where
  among-rows : (us : List ℕ) → row_for u (map (study_row d f) us) ≡ cond (among u us) (Some (study_row d f u)) None
  unfolding row_for among
  among-rows [] = find_none _
  among-rows (v ∷ us) = ⊎_elim here (later (among-rows us)) (eq-or-ne v u)
    where
      Goal : List ℕ → Type 0
      Goal vs = row_for u (map (study_row d f) vs) ≡ cond (among u vs) (Some (study_row d f u)) None

      here : v ≡ u → Goal (v ∷ us)
      here e =
          find-here _ (study_row d f v) (map (study_row d f) us) (eq-eqb _ u (study-row-unit d f v ∙ e))
          ∙ rw (e, eq-eqb u u refl)

      later : Goal us → (v ≡ u → ⊥) → Goal (v ∷ us)
      later more n =
          find-later _ (study_row d f v) (map (study_row d f) us) (ne_eqb _ u (λ e. n (sym (study-row-unit d f v) ∙ e)))
          ∙ rw (ne_eqb u v (λ e. n (sym e))) more

  row-for : row_for u (study_rows d f) ≡ cond (any (of_unit u) (supply_of f.supply)) (Some (study_row d f u)) None
  unfolding of_unit
  row-for = rw (study-rows d f, ← among-units u (supply_of f.supply)) (among-rows (units (supply_of f.supply)))

  pub supplied-row : any (of_unit u) (supply_of f.supply) ≡ true → row_for u (study_rows d f) ≡ Some (study_row d f u)
  supplied-row e = row-for ∙ rw e

  pub unsupplied-row : any (of_unit u) (supply_of f.supply) ≡ false → row_for u (study_rows d f) ≡ None
  unsupplied-row e = row-for ∙ rw e
