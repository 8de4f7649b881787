-- All files together, from what checking the market and then schedules answered: the first refusal of all, or the rows
-- that stand in the runs. Assumes nothing.
use Rattle.std.specs.Prelude.{Err, None, Ok, Option, Result, Some}
use Prim.Native.Nat.{ℕ, ◌<◌}
use mathlib.Core.Path.{◌≡◌, refl, sym, ◌∙◌}
use mathlib.Core.List.{List}
use native.Mathlib.Omega.{arith}
use lib.ListN.{length, take}
use Rattle.base.specs.Search.{first_of}
use Rattle.base.proofs.Searches.{first-of-none, option-map-none}
use Rattle.tables.specs.Reading.{refusal}
use Rattle.tables.specs.declared.files.File.TheVariants.{Constraint, Supply, Parents}
use Rattle.tables.specs.declared.files.Refusal.{Refusal}
use Rattle.tables.specs.Refusals.{refused}
use Rattle.supply.specs.Supply.{most_units, units, over_limit}
use Rattle.checking.specs.promises.Market.{market_of, market_unless, MarketChecked, MarketFits}
use Rattle.checking.specs.Files.{files, supply_of, alone_refusals, market_refusals, beside_refusals, check_refusals, check_refusal}
use Rattle.checking.specs.declared.market.Market.{Market}
use Rattle.base.proofs.FirstLaws.{first-of-part, first-of-rest}
use Rattle.checking.proofs.KeptLaws.{constraint-kept, units-few}

market-answered : (o : Option Refusal) (c s : List ℕ) {m : Market} → market_unless o c s ≡ Ok m → (o ≡ None) × (m ≡ market_of c s)
market-answered None c s e = (refl, cc)
market-answered (Some x) c s e = let z : ◌≡◌ {A = ℕ} 0 1 = cc in absurd (omega arith)

refusal-answered : (o : Option Refusal) (c s : List ℕ) {x : Refusal} → market_unless o c s ≡ Err x → o ≡ Some x
refusal-answered None c s e = let z : ◌≡◌ {A = ℕ} 0 1 = cc in absurd (omega arith)
refusal-answered (Some y) c s e = cc

module _ (c s supply us : List ℕ) {q : Result Market Refusal} (market : MarketChecked c s supply us q) where
  -- the market is refused
  pub market-refused : (h k p : List ℕ) {x : Refusal} → q ≡ Err x → check_refusal (files c s h k p) ≡ Some x
  unfolding check_refusal check_refusals
  market-refused h k p {x} e =
      first-of-part (market_refusals c s) _ x
      (refusal-answered (first_of (market_refusals c s)) c s (sym market.answers ∙ e))

  module _ (m : Market) (e : q ≡ Ok m) where
    pub told : (first_of (market_refusals c s) ≡ None) × (m ≡ market_of c s)
    told = market-answered (first_of (market_refusals c s)) c s (sym market.answers ∙ e)

    pub market-kept : (refusal Constraint c ≡ None) × (refusal Supply s ≡ None) × (over_limit (supply_of s) ≡ None)
    unfolding market_refusals alone_refusals
    market-kept =
        let (constraint-read, later) = first-of-none (refusal Constraint c) _ told.0 in
        let (supply-read, rules) = first-of-none (refusal Supply s) _ later in
        let five = (first-of-none _ _ rules).0 in
        (constraint-read, supply-read, option-map-none (refused 5 Supply) (over_limit (supply_of s)) five)

    -- what checking schedules asks of the market
    pub market-fits : most_units < length us → MarketFits m us
    market-fits room =
        record {
          hour = rw told.1 (constraint-kept c market-kept.0).hour;
          listed = rw told.1 (omega (arith, units-few (supply_of s) market-kept.2));
        }

    listed : take m.units us ≡ units (supply_of s)
    listed = rw told.1 (market.kept told.0).listed

    -- the first refusal is that of what comes behind
    pub schedules-first :
        (h k p : List ℕ) →
        check_refusal (files c s h k p) ≡ first_of (beside_refusals (alone_refusals Parents p) m.constraint.hour (take m.units us) h k)
    unfolding check_refusal check_refusals
    schedules-first h k p = first-of-rest (market_refusals c s) _ told.0 ∙ rw (listed, told.1)
