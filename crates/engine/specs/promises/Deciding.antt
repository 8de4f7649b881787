-- What deciding a study promises: every refusal but 10, or the rows of the answer, which stand at the start of a lent run.
-- Nothing is written to a file, and no day changes. Assumes nothing.
use Rattle.std.specs.Prelude.{ℕ, ◌*◌, ◌≤◌, ◌≡◌, List, [], ◌∷◌, ◌++◌, map, length, take, Option, None, Some, Result, Ok, Err}
use Rattle.base.specs.Rising.{RisingFrom}
use Rattle.base.specs.Search.{All, first_of}
use Rattle.tables.specs.Rows.{SupplyRow, ScheduleRow}
use Rattle.tables.specs.declared.answer.AnswerRow.{AnswerRow}
use Rattle.tables.specs.declared.constraint.ConstraintRow.{ConstraintRow}
use Rattle.tables.specs.declared.files.Refusal.{Refusal}
use Rattle.cells.specs.promises.Views.{answer_rows, answer_width}
use Rattle.supply.specs.Supply.{most_units, units}
use Rattle.cells.specs.promises.Letters.{Lettered}
use Rattle.checking.specs.Files.{Files, constraint_of, parents_of, alone_refusals, beside_refusals}
use Rattle.checking.specs.promises.Curves.{priced_rows}
use Rattle.affiliates.specs.Affiliates.{grouped}
use Rattle.tables.specs.declared.files.File.TheVariants.{Parents}
use Rattle.decision.specs.promises.Naming.{supplier_of}
use Rattle.outcome.specs.Day.{RunningUnit, most_running, would_run}
use Rattle.outcome.specs.Decision.{decided}
use Rattle.outcome.specs.Study.{rows_refusals, study_rows, decision_refusal}
use Rattle.engine.specs.View.{view_of}
use Rattle.engine.specs.declared.day.Day.{Day}
use Rattle.engine.specs.declared.deciding.DecidedRows.{DecidedRows}

-- k rows that can be written, and whose units can be put among those that run
pub record RowsReady (running : List RunningUnit) (k : ℕ) (cells : List ℕ) : Type 0 where
  pub few : k ≤ most_units
  pub there : k * answer_width ≤ length cells
  pub lettered : All Lettered (answer_rows k cells)
  pub rising : RisingFrom 0 (map (λ (r : AnswerRow). r.unit) (answer_rows k cells))
  pub fit : would_run (map (λ (r : AnswerRow). r.unit) (answer_rows k cells)) running ≤ most_running

-- what was found where the first refusal is o, and else these are the rows for this hour
module _ (o : Option Refusal) (hour : ℕ) (rows : List AnswerRow) (running : List RunningUnit) (new : List ℕ) where
  pub record Laid (h k : ℕ) : Type 0 where
    pub accepted : o ≡ None
    pub at-hour : h ≡ hour
    pub laid : answer_rows k new ≡ rows
    pub ready : RowsReady running k new

  pub record Decides (r : Result DecidedRows Refusal) : Type 0 where
    pub refuses : (e : Refusal) → r ≡ Err e → o ≡ Some e
    pub decides : (found : DecidedRows) → r ≡ Ok found → Laid found.hour found.count

-- deciding the rows of a study's files, deciding schedules and curves for a market that passed while another refusal waits for its turn,
-- deciding them by the groups of parents, and deciding all files
abbrev pub DecidesFromRows : Day → ConstraintRow → List SupplyRow → List ScheduleRow → List ℕ → Result DecidedRows Refusal → Type 0
DecidesFromRows day c supply scheduled new r =
    Decides (first_of (rows_refusals (view_of day) c supply scheduled)) c.hour (decided c supply scheduled (view_of day).running supply)
    (view_of day).running
    new
    r

abbrev pub DecidesMarket : Day → ConstraintRow → List SupplyRow → Option Refusal → List ℕ → List ℕ → List ℕ → Result DecidedRows Refusal → Type 0
DecidesMarket day c supply waiting s k new r =
    Decides
    (first_of (beside_refusals (waiting ∷ []) c.hour (units supply) s k ++ rows_refusals (view_of day) c supply (priced_rows s k)))
    c.hour
    (decided c supply (priced_rows s k) (view_of day).running supply)
    (view_of day).running
    new
    r

abbrev pub DecidesGroups : Day → ConstraintRow → List SupplyRow → List ℕ → List ℕ → List ℕ → List ℕ → Result DecidedRows Refusal → Type 0
DecidesGroups day c ungrouped s k p new r =
    Decides
    (first_of
    (beside_refusals (alone_refusals Parents p) c.hour (units ungrouped) s k ++ rows_refusals (view_of day) c ungrouped (priced_rows s k)))
    c.hour
    (decided c (grouped (parents_of p) ungrouped) (priced_rows s k) (view_of day).running ungrouped)
    (view_of day).running
    new
    r

abbrev pub DecidesStudy : Day → Files → List ℕ → Result DecidedRows Refusal → Type 0
DecidesStudy day f new r =
    Decides (decision_refusal (view_of day) f) (constraint_of f.constraint).hour (study_rows (view_of day) f) (view_of day).running new r

-- the suppliers of the units as the supply file has them, at the start of a run, and how many; none where there are no parents
pub record ShownListed (p : List ℕ) (k : ℕ) (ungrouped : List SupplyRow) (run : List ℕ) (r : ℕ) : Type 0 where
  pub none-listed : length p ≡ 0 → r ≡ 0
  pub all_listed : (length p ≡ 0 → ⊥) → (r ≡ k) × (take k run ≡ map (supplier_of ungrouped) (units ungrouped))
