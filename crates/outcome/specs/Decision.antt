-- Document 01, "Market and verdict" and "Choice of schedule": what a study decides of each unit of the supply file, from the
-- rows of its files and the running units of the day it is given. Document 02, F-6: "The head stands in for the supplier in the
-- test; the answer keeps the number from the supply file." So `supply` here are the rows by groups, and `ungrouped` those of the
-- supply file. Assumes nothing.
use Rattle.std.specs.Prelude.{ℕ, Bool, cond, ◌&&◌, not, List, map, eqb, None, Option, Some, unwrap_or}
use Rattle.base.specs.Search.{any, find}
use Rattle.numbers.specs.Numbers.{place_of}
use Rattle.tables.specs.Rows.{SupplyRow, ScheduleRow, letter_of}
use Rattle.tables.specs.declared.answer.AnswerRow.{AnswerRow}
use Rattle.tables.specs.declared.constraint.ConstraintRow.{ConstraintRow}
use Rattle.tables.specs.declared.files.Kind.TheVariants.{C}
use Rattle.supply.specs.Supply.{units}
use Rattle.schedules.specs.Schedules.{own}
use Rattle.market.specs.Clearing.{need_of, short, clearing_row}
use Rattle.offers.specs.Supply.{no_row, eligible}
use Rattle.market.specs.Parties.{party, parties, amounts}
use Rattle.offers.specs.Relevant.{relevant}
use Rattle.pivotal.specs.Test.{left, Verdict, U, verdict_letter, test_verdict}
use Rattle.choice.specs.Choosing.{choice}
use Rattle.choice.specs.Exposure.{exposed}
use Rattle.choice.specs.Schedules.{schedules, on_cost, has_any}
use Rattle.choice.specs.declared.choices.Choice.{Choice}
use Rattle.choice.specs.declared.kinds.Kinds.TheVariants.{OnlyC}
use Rattle.outcome.specs.Day.{RunningUnit, kind_running}

unfoldable pub of_unit : ℕ → SupplyRow → Bool
of_unit u r = eqb r.unit u

-- a row of the unit: its rows share supplier and dfax
unfoldable pub unit_row : List SupplyRow → ℕ → SupplyRow
unit_row supply u = unwrap_or (find (of_unit u) supply) no_row

module _ (c : ConstraintRow) (supply : List SupplyRow) where
  -- "the test cannot be performed"
  unfoldable pub untested : Bool
  untested = short c.cutoff (need_of c.relief) supply

  -- the row whose cost is the clearing cost
  unfoldable pub cleared : SupplyRow
  cleared = clearing_row c.cutoff (need_of c.relief) supply

  -- what the test leaves of the relevant market for the party k
  unfoldable pub left_of : ℕ → ℕ
  left_of k = left (amounts c.cutoff cleared supply) (place_of k (parties supply))

  -- "every verdict is U and left is 0", or "F when left is below the need, else P"
  unfoldable pub verdict_of : ℕ → Verdict
  verdict_of k = cond untested U (test_verdict (left_of k) (need_of c.relief))

  unfoldable pub left_shown : ℕ → ℕ
  left_shown k = cond untested 0 (left_of k)

  unfoldable pub has_relevant : ℕ → Bool
  has_relevant u = any (λ (r : SupplyRow). of_unit u r && relevant c.cutoff cleared r) supply

  unfoldable pub has_eligible : ℕ → Bool
  has_eligible u = any (λ (r : SupplyRow). of_unit u r && eligible c.cutoff r) supply

  -- "A unit's verdict is that of its supplier", and with parents that of its group
  unfoldable pub exposed_unit : ℕ → Bool
  exposed_unit u = exposed (verdict_of (party (unit_row supply u))) (has_relevant u) (has_eligible u)

-- where nothing can be chosen, which is refusal 21
abbrev pub no_choice : Choice
no_choice = record { schedule = 0; kind = C; cost = 0 }

abbrev pub chosen_or : Option Choice → Choice
chosen_or None = no_choice
chosen_or (Some s) = s

module _ (c : ConstraintRow) (supply : List SupplyRow) (scheduled : List ScheduleRow) (running : List RunningUnit) where
  unfoldable pub choice_of : ℕ → Option Choice
  choice_of u = choice (kind_running u running) (exposed_unit c supply u) c.hour (own u scheduled)

  -- a unit's row goes by the market, the day's kind for the unit and the unit's own schedule rows, and nothing else
  unfoldable pub decided_row : List SupplyRow → ℕ → AnswerRow
  decided_row ungrouped u =
      let k = party (unit_row supply u) in
      let chosen = chosen_or (choice_of u) in
      record {
        unit = u;
        supplier = (unit_row ungrouped u).supplier;
        verdict = verdict_letter (verdict_of c supply k);
        left = left_shown c supply k;
        schedule = chosen.schedule;
        kind = letter_of chosen.kind;
        cost = chosen.cost;
      }

  unfoldable pub decided : List SupplyRow → List AnswerRow
  decided ungrouped = map (decided_row ungrouped) (units supply)

-- 21: "unit of the supply file, running on cost, has no C schedule (file 3, lowest unit)"
unfoldable pub lacks_cost : ℕ → List ScheduleRow → List RunningUnit → ℕ → Bool
lacks_cost h scheduled running u =
    on_cost (kind_running u running) && not (has_any OnlyC (schedules h (own u scheduled)))

unfoldable pub no_cost_schedule : ℕ → List SupplyRow → List ScheduleRow → List RunningUnit → Option ℕ
no_cost_schedule h supply scheduled running = find (lacks_cost h scheduled running) (units supply)
