-- Document 02, F-2: "The preview takes what a study takes but no buffer, and a unit number, and gives that unit's answer row as
-- fields. Its result is that of a study done on a copy of the day with a buffer long enough, refusals included. It refuses with 31
-- when the unit isn't in the supply file, after all others." No day comes of it, since none moves. Assumes nothing.
use Rattle.std.specs.Prelude.{ℕ, List, [], ◌∷◌, ◌++◌, eqb, None, Option, Some}
use Rattle.base.specs.Search.{any, find, first_of}
use Rattle.tables.specs.declared.answer.AnswerRow.{AnswerRow}
use Rattle.tables.specs.declared.files.Refusal.{Refusal}
use Rattle.tables.specs.Refusals.{unless, bare_refusal}
use Rattle.checking.specs.Files.{Files, supply_of}
use Rattle.outcome.specs.Day.{DayView}
use Rattle.outcome.specs.Decision.{of_unit}
use Rattle.outcome.specs.Study.{study_rows, decision_refusals}

-- what a preview gives: number, file and place as they are told, and the row, none where it is refused
pub record Previewing : Type 0 where
  pub told : Refusal
  pub row : Option AnswerRow

unfoldable pub previewing : Option AnswerRow → Option Refusal → Previewing
previewing row (Some r) = record { told = r; row = None }
previewing row None = record { told = bare_refusal 0; row = row }

-- a unit's row among those of an answer
unfoldable pub row_for : ℕ → List AnswerRow → Option AnswerRow
row_for u rows = find (λ (r : AnswerRow). eqb r.unit u) rows

-- 31: "when the unit isn't in the supply file"
unfoldable pub not_supplied : Files → ℕ → Option Refusal
not_supplied f u = unless (any (of_unit u) (supply_of f.supply)) 31

module _ (d : DayView) (f : Files) (u : ℕ) where
  -- every refusal of a study but 10, then 31
  unfoldable pub preview_refusals : List (Option Refusal)
  preview_refusals = decision_refusals d f ++ (not_supplied f u ∷ [])

  unfoldable pub preview_refusal : Option Refusal
  preview_refusal = first_of preview_refusals

  unfoldable pub previewed : Previewing
  previewed = previewing (row_for u (study_rows d f)) preview_refusal
