-- The number of the first refusal, from what the checks answered. Assumes nothing.
use Rattle.std.specs.Prelude.{Err, None, Ok, Option, Result}
use Prim.Native.Nat.{ℕ}
use mathlib.Core.Path.{◌≡◌, sym, ◌∙◌, ap}
use mathlib.Core.List.{List, [], ◌∷◌, ◌++◌, append_assoc}
use lib.ListN.{take}
use Rattle.base.specs.Search.{first_of}
use Rattle.base.proofs.FirstLaws.{first-of-between}
use Rattle.tables.specs.declared.files.File.TheVariants.{Parents}
use Rattle.tables.specs.declared.files.Refusal.{Refusal}
use Rattle.tables.specs.Refusals.{told}
use Rattle.tables.specs.Rows.{ScheduleRow}
use Rattle.checking.specs.promises.Alone.{SchedulesChecked}
use Rattle.checking.specs.promises.Market.{MarketChecked}
use Rattle.checking.specs.Files.{files, schedules_of, alone_refusals, schedules_refusals, curves_refusals, units_refusals, beside_refusals, check_refusal, check_number}
use Rattle.checking.specs.declared.market.Market.{Market}
use Rattle.checking.proofs.MarketLaws.{market-refused, schedules-first}
use Rattle.checking.proofs.ParentsLaws.{none-refused}
use Rattle.checking.proofs.RuleLaws.{rows-answered, refused-answered}

-- the number that is told
abbrev number-told : Option Refusal → ℕ
number-told o = (told o).number

-- schedules
module _ (refusals : List (Option Refusal)) (rows : List ScheduleRow) (cells links : List ℕ) {r : Result ℕ Refusal} (checked : SchedulesChecked refusals rows cells links r) where
  pub schedules-number : {x : Refusal} → r ≡ Err x → x.number ≡ (told (first_of refusals)).number
  schedules-number e = rw (refused-answered (first_of refusals) _ (sym checked.answers ∙ e))

  pub schedules-zero : {n : ℕ} → r ≡ Ok n → 0 ≡ (told (first_of refusals)).number
  schedules-zero e = rw (rows-answered (first_of refusals) _ (sym checked.answers ∙ e)).0

-- all three, with no curves and no parents
module _ (c s supply us : List ℕ) {q : Result Market Refusal} (market : MarketChecked c s supply us q) where
  pub market-number : (h : List ℕ) {x : Refusal} → q ≡ Err x → x.number ≡ check_number (files c s h [] [])
  unfolding check_number
  market-number h e = ap number-told (sym (market-refused c s supply us market h [] [] e))

  module _ (m : Market) (e : q ≡ Ok m) (h : List ℕ) where
    -- nothing waits
    no-parents :
        check_refusal (files c s h [] []) ≡ first_of (beside_refusals (None ∷ []) m.constraint.hour (take m.units us) h [])
    unfolding beside_refusals
    no-parents =
        let us-listed = take m.units us in
        let lacks = units_refusals m.constraint.hour us-listed (schedules_of h) in
        let before = schedules_refusals us-listed h ++ curves_refusals (schedules_of h) [] in
        schedules-first c s supply us market m e h [] []
        ∙ rw (← append_assoc (schedules_refusals us-listed h) (curves_refusals (schedules_of h) []) (alone_refusals Parents [] ++ lacks))
        (first-of-between before (alone_refusals Parents []) lacks
        ∙ rw (none-refused, append_assoc (schedules_refusals us-listed h) (curves_refusals (schedules_of h) []) (None ∷ lacks)))

    pub files-number :
        {a : ℕ} → a ≡ (told (first_of (beside_refusals (None ∷ []) m.constraint.hour (take m.units us) h []))).number →
        a ≡ check_number (files c s h [] [])
    unfolding check_number
    files-number is = is ∙ ap number-told (sym no-parents)
