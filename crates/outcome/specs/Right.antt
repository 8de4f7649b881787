-- Demand 3, as a predicate on the files of a study, the day it was given and any bytes: "those bytes are in the fixed layout,
-- one row per unit by rising number with its supplier, and the following holds of every row. .." It speaks of rows, removals
-- and costs alone, never of what the engine computes or keeps. Where it says the relief, the need is meant. Document 02, F-6:
-- "A seller sees the verdict of his group, and "other supplier" means another group; a removal takes away whole groups, his own
-- included." So rows are judged by groups, the head of each chain in its suppliers' place. Assumes nothing.
use Rattle.std.specs.Prelude.{ℕ, ◌≤◌, ◌<◌, ◌≡◌, ◌≢◌, ◌↔◌, Bool, true}
use mathlib.Core.List.{List, map, Memᴰ as Among}
use Rattle.base.specs.Rising.{RisingFrom}
use Rattle.base.specs.Search.{All}
use Rattle.tables.specs.Rows.{SupplyRow, ScheduleRow, letter_of}
use Rattle.tables.specs.declared.answer.AnswerRow.{AnswerRow}
use Rattle.tables.specs.declared.constraint.ConstraintRow.{ConstraintRow}
use Rattle.tables.specs.declared.files.Kind.{Kind}
use Rattle.checking.specs.Files.{Files, constraint_of, supply_of, scheduled_of, groups_of}
use Rattle.schedules.specs.Schedules.{own}
use Rattle.market.specs.Clearing.{Clears, need_of, eligible_supply}
use Rattle.market.specs.Parties.{party}
use Rattle.offers.specs.Relevant.{relevant}
use Rattle.market.specs.Removals.{Removes, remaining}
use Rattle.offers.specs.Supply.{eligible}
use Rattle.choice.specs.Right.{RightChoice}
use Rattle.outcome.specs.Answer.{answer_text}
use Rattle.outcome.specs.Day.{RunningUnit, DayView, kind_running}
use Rattle.pivotal.specs.Test.{U, P, F, verdict_letter}

-- a row of the unit
pub record RowOf (supply : List SupplyRow) (u : ℕ) (w : SupplyRow) : Type 0 where
  pub a-row : Among w supply
  pub its-unit : w.unit ≡ u

-- "one row per unit by rising number"
pub record RowPerUnit (supply : List SupplyRow) (rs : List AnswerRow) : Type 0 where
  pub rising : RisingFrom 0 (map (λ (r : AnswerRow). r.unit) rs)
  pub a_unit : (r : AnswerRow) → Among r rs → (w : SupplyRow) × RowOf supply r.unit w
  pub every-unit : (w : SupplyRow) → Among w supply → (r : AnswerRow) × Among r rs × (r.unit ≡ w.unit)

module _ (c : ConstraintRow) (supply : List SupplyRow) where
  -- a row that clears
  abbrev pub Clearing : SupplyRow → Type 0
  Clearing q = Clears c.cutoff (need_of c.relief) supply q

  -- "It shows U exactly when eligible supply is short of the relief. .. Where the row doesn't show U, it shows F exactly when
  -- some removal leaves the relevant market less than the relief, else P. The amount left is 0 for U; otherwise some removal
  -- leaves exactly that amount, and every other removal leaves at least as much." A removal takes away whole groups, and where the
  -- row doesn't show U some row clears, so that all of this is said of one
  pub record RightTest (k : ℕ) (verdict left : ℕ) : Type 0 where
    pub shows-U : (verdict ≡ verdict_letter U) ↔ (eligible_supply c.cutoff supply < need_of c.relief)
    pub some-clears : verdict ≢ verdict_letter U → (q : SupplyRow) × Clearing q
    pub shows-F :
        verdict ≢ verdict_letter U → (q : SupplyRow) → Clearing q →
        (verdict ≡ verdict_letter F) ↔ ((taken : List ℕ) × Removes supply k taken × (remaining c.cutoff q taken supply < need_of c.relief))
    pub else-P : verdict ≢ verdict_letter U → verdict ≢ verdict_letter F → verdict ≡ verdict_letter P
    pub nothing_left : verdict ≡ verdict_letter U → left ≡ 0
    pub reached :
        verdict ≢ verdict_letter U → (q : SupplyRow) → Clearing q →
        (taken : List ℕ) × Removes supply k taken × (remaining c.cutoff q taken supply ≡ left)
    pub least :
        verdict ≢ verdict_letter U → (q : SupplyRow) → Clearing q →
        (taken : List ℕ) → Removes supply k taken → left ≤ remaining c.cutoff q taken supply

  pub record RelevantRow (u : ℕ) : Type 0 where
    pub row : SupplyRow
    pub of-the-unit : RowOf supply u row
    pub cleared : SupplyRow
    pub clears : Clearing cleared
    pub is-relevant : relevant c.cutoff cleared row ≡ true

  pub record EligibleRow (u : ℕ) : Type 0 where
    pub row : SupplyRow
    pub of-the-unit : RowOf supply u row
    pub is-eligible : eligible c.cutoff row ≡ true

  -- "A unit is exposed when its verdict is F and it has a relevant row, or its verdict is U and it has an eligible row." It goes
  -- by the verdict that the row shows, which the clauses on U and F make the true one
  pub data Exposed (u verdict : ℕ) : Type 0 where
    failed : verdict ≡ verdict_letter F → RelevantRow u → Exposed u verdict
    untested : verdict ≡ verdict_letter U → EligibleRow u → Exposed u verdict

  -- "The schedule is an eligible one of the unit, with its true kind and cost. Every other eligible schedule of the unit costs at
  -- least as much, and one that costs the same has a larger number."
  pub record RightSchedule (scheduled : List ScheduleRow) (running : List RunningUnit) (r : AnswerRow) : Type 0 where
    pub exposed : Bool
    pub exposed-exactly : (exposed ≡ true) ↔ Exposed r.unit r.verdict
    pub kind : Kind
    pub kind-shown : r.kind ≡ letter_of kind
    pub right :
        RightChoice
        (kind_running r.unit running)
        exposed
        c.hour
        (own r.unit scheduled)
        (record { schedule = r.schedule; kind = kind; cost = r.cost })

  pub record RightRow (scheduled : List ScheduleRow) (running : List RunningUnit) (ungrouped : List SupplyRow) (r : AnswerRow) : Type 0 where
    -- "with its supplier", and with parents "the number from the supply file"
    pub supplier : (w : SupplyRow) → RowOf ungrouped r.unit w → r.supplier ≡ w.supplier
    pub tested : (w : SupplyRow) → RowOf supply r.unit w → RightTest (party w) r.verdict r.left
    pub schedule : RightSchedule scheduled running r

-- demand 3 on one row of a study's answer
abbrev pub RightOf : DayView → Files → AnswerRow → Type 0
RightOf d f =
    RightRow (constraint_of f.constraint) (groups_of f) (scheduled_of f) d.running (supply_of f.supply)

-- demand 3
pub record Right (d : DayView) (f : Files) (text : List ℕ) : Type 0 where
  pub rows : List AnswerRow
  -- "those bytes are in the fixed layout"
  pub in-layout : text ≡ answer_text rows
  pub per-unit : RowPerUnit (supply_of f.supply) rows
  pub every-row : All (RightOf d f) rows

-- demand 3 on a row that is previewed for a unit
pub record RightFor (d : DayView) (f : Files) (u : ℕ) (r : AnswerRow) : Type 0 where
  pub its-unit : r.unit ≡ u
  pub right : RightOf d f r
