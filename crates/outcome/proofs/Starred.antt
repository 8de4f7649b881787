-- The starred examples of document 01 as one table, and behind it our own for document 02: what the definitions give, computed by
-- the checker. Assumes nothing.
use Rattle.std.specs.Prelude.{None}
use Prim.Native.Nat.{ℕ}
use mathlib.Core.Path.{◌≡◌, refl}
use mathlib.Core.Bool.{true, false}
use mathlib.Core.List.{List, [], ◌∷◌, map}
use Rattle.base.specs.Rising.{among}
use Rattle.base.specs.Search.{those}
use Rattle.base.specs.Text.{bytes}
use Rattle.base.proofs.Computing.{rising_all}
use Rattle.choice.specs.Choosing.{shown, better, kept, kept_all, candidates, choice}
use Rattle.choice.specs.Cost.{offer_price, price, hour_cost, running_cost, in_its_run, share, run_cost, starting_cost, cost}
use Rattle.choice.specs.Exposure.{exposed}
use Rattle.choice.specs.Schedules.{
  at_hour,
  schedules,
  of_kinds,
  has_any,
  eligible_kinds,
  eligible_schedule,
}
use Rattle.checking.specs.Files.{files, Files}
use Rattle.checking.proofs.Computing.{files_all}
use Rattle.schedules.proofs.Computing.{runs_all, schedules_all}
use Rattle.outcome.specs.Day.{fresh_day}
use Rattle.outcome.specs.Study.{decision_refusal, answer_file}
use Rattle.market.specs.Clearing.{eligible_supply, need_of, short, eligible_up_to, eligible_below, clears, clearing, clearing_row}
use Rattle.offers.specs.Supply.{row_at, abs_dfax, eligible, supply, total_supply, offer, cost_beside, at_most, below}
use Rattle.offers.specs.Offer.{with_adder, capped}
use Rattle.market.specs.Parties.{party, parties, relevant_of, amount_of, amounts}
use Rattle.offers.specs.Relevant.{relevant}
use Rattle.tables.proofs.Starred.{constraint_file, supply_file, schedules_file, starred_all}
use Rattle.hours.specs.Hours.{in_run}
use Rattle.pivotal.specs.Test.{total, no_largest, largest_with, largest_after, left, pivotal, too_large, out_of_bounds, tested, Verdict, P, F, verdict_letter, TestOutcome}
use Rattle.tables.specs.Rows.{SupplyRow, magnitude, kind_of}
use Rattle.tables.specs.Refusals.{bare_refusal}
use Rattle.affiliates.proofs.Computing.{affiliates_all}
use Rattle.curves.proofs.Computing.{curves_all}
use Rattle.numbers.proofs.Computing.{numbers_all}
use Rattle.supply.proofs.Computing.{supply_all}
use Rattle.outcome.proofs.Computing.{answer_all, day_all, decision_all, study_all}

-- a row of the same dfax as every other here, with an incremental cost
abbrev pub at_cost : ℕ → SupplyRow
at_cost c = record { unit = 1; supplier = 1; mw = 1; cost = c; dfax = 15000 }

-- the test of the supplier at a place, with what is left and the verdict
abbrev pub shows : ℕ → Verdict → TestOutcome
shows left verdict = record { told = bare_refusal 0; left = left; verdict = verdict_letter verdict }

-- the files of the example, with some curves and some parents
abbrev pub example_with : List ℕ → List ℕ → Files
example_with curves parents = files constraint_file supply_file schedules_file curves parents

abbrev pub answer_example : List ℕ
answer_example =
    bytes
    "unit,supplier,verdict,left,schedule,kind,cost\r\n11,1,F,0,2,C,1030000\r\n12,2,F,0,1,M,330000\r\n13,3,F,0,1,C,890000\r\n14,4,F,5000000,1,M,500000\r\n"

-- opens every definition, part by part
unfoldable test_all : Unit {0}
unfolding total no_largest largest_with largest_after left pivotal too_large out_of_bounds tested
test_all = tt

unfoldable market_all : Unit {0}
unfolding with_adder capped magnitude abs_dfax eligible offer cost_beside relevant supply total_supply at_most below eligible_supply need_of short eligible_up_to eligible_below clears clearing row_at clearing_row among party parties relevant_of amount_of amounts
market_all = tt

unfoldable choice_all : Unit {0}
unfolding in_run offer_price price hour_cost running_cost in_its_run share run_cost starting_cost cost kind_of those at_hour schedules of_kinds has_any eligible_kinds eligible_schedule exposed shown better kept kept_all candidates choice
choice_all = tt

unfoldable pub engine_all : Unit {0}
unfolding starred_all rising_all numbers_all supply_all affiliates_all schedules_all runs_all curves_all files_all market_all test_all choice_all day_all answer_all decision_all study_all
engine_all = tt

-- "Capped offers: 0 gives 0; 9 gives 9; 10 gives 11; 99999 gives 109998; 100001 gives 110001; 190000, 195000 and 200000 each
-- give 200000. Amounts 4, 3, 2, 1: the last has left 2, P at need 2, F at need 3. Amounts 5, 5: left 0, F at need 1. Same dfax,
-- clearing row at cost 91 (offer 100): cost 137 (150) is relevant, 138 (151) is not." And the example of "Answer file". And F-4's
-- "200000 still gives 200000, and 200001 gives 200001".
pub starred :
    (map capped (0 ∷ 9 ∷ 10 ∷ 99999 ∷ 100001 ∷ 190000 ∷ 195000 ∷ 200000 ∷ 200001 ∷ [])
    ≡ 0 ∷ 9 ∷ 11 ∷ 109998 ∷ 110001 ∷ 200000 ∷ 200000 ∷ 200000 ∷ 200001 ∷ [])
    × (tested (4 ∷ 3 ∷ 2 ∷ 1 ∷ []) 3 2 ≡ shows 2 P)
    × (tested (4 ∷ 3 ∷ 2 ∷ 1 ∷ []) 3 3 ≡ shows 2 F)
    × (tested (5 ∷ 5 ∷ []) 0 1 ≡ shows 0 F)
    × (map offer (map at_cost (91 ∷ 137 ∷ 138 ∷ [])) ≡ 100 ∷ 150 ∷ 151 ∷ [])
    × (map (relevant 1 (at_cost 91)) (map at_cost (137 ∷ 138 ∷ [])) ≡ true ∷ false ∷ [])
    × (decision_refusal fresh_day (example_with [] []) ≡ None)
    × (answer_file fresh_day (example_with [] []) ≡ answer_example)
unfolding engine_all
starred = (refl, refl, refl, refl, refl, refl, refl, refl)

-- F-6: the parents `1,2` make suppliers 1 and 2 one group, so that a removal of 4 with two others leaves nothing. The answer is
-- the same but for what is left to unit 14, whose supplier is still 4.
abbrev pub parents_file : List ℕ
parents_file = bytes "supplier,parent\r\n1,2\r\n"

abbrev pub grouped_example : List ℕ
grouped_example =
    bytes
    "unit,supplier,verdict,left,schedule,kind,cost\r\n11,1,F,0,2,C,1030000\r\n12,2,F,0,1,M,330000\r\n13,3,F,0,1,C,890000\r\n14,4,F,0,1,M,500000\r\n"

pub grouped-example :
    (decision_refusal fresh_day (example_with [] parents_file) ≡ None) × (answer_file fresh_day (example_with [] parents_file) ≡ grouped_example)
unfolding engine_all
grouped-example = (refl, refl)

-- F-3: a curve on the cost-based schedule of unit 11, whose ecomin is 100: the price is 2000 and not the column's 3000, capped 2200,
-- and the cost 920000.
abbrev pub curves_file : List ℕ
curves_file = bytes "unit,schedule,hour,mw,price\r\n11,2,5,50,1000\r\n11,2,5,100,2000\r\n"

abbrev pub curved_example : List ℕ
curved_example =
    bytes
    "unit,supplier,verdict,left,schedule,kind,cost\r\n11,1,F,0,2,C,920000\r\n12,2,F,0,1,M,330000\r\n13,3,F,0,1,C,890000\r\n14,4,F,5000000,1,M,500000\r\n"

pub curved-example :
    (decision_refusal fresh_day (example_with curves_file []) ≡ None) × (answer_file fresh_day (example_with curves_file []) ≡ curved_example)
unfolding engine_all
curved-example = (refl, refl)
