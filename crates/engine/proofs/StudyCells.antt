-- From files that passed, and the cells that were laid down, to what deciding their rows asks. Assumes nothing.
use Rattle.std.specs.Prelude.{Err, None, Ok, Option, Result, Some}
use Prim.Native.Nat.{ℕ, ◌≤◌, ◌<◌}
use mathlib.Core.Path.{◌≡◌, refl, sym, ◌∙◌}
use mathlib.Core.List.{List, [], ◌∷◌}
use native.Mathlib.Omega.{arith}
use lib.ListN.{length}
use Rattle.base.specs.Search.{first_of}
use Rattle.base.proofs.Elements.{all-mem}
use Rattle.tables.specs.Rows.{SupplyRow}
use Rattle.tables.specs.declared.files.File.TheVariants.{Supply, Schedules, Curves}
use Rattle.tables.specs.declared.files.Refusal.{Refusal}
use Rattle.links.specs.promises.Links.{RowsLinked}
use Rattle.supply.specs.Supply.{most_units, suppliers}
use Rattle.supply.proofs.UnitLaws.{units-rising}
use Rattle.market.specs.Parties.{party, parties}
use Rattle.checking.specs.promises.Alone.{SchedulesChecked}
use Rattle.checking.specs.promises.Market.{MarketChecked}
use Rattle.checking.specs.Files.{constraint_of, supply_of, schedules_of, or_header, curves_of, alone_refusals, market_refusals, schedules_refusals, curves_refusals, beside_refusals}
use Rattle.checking.specs.promises.Curves.{priced_rows}
use Rattle.curves.proofs.PricedLaws.{priced-count, priced-permitted}
use Rattle.checking.specs.declared.market.Market.{Market}
use Rattle.checking.proofs.MarketLaws.{told, market-kept}
use Rattle.checking.proofs.RuleLaws.{rows-answered, refused-answered}
use Rattle.base.proofs.Searches.{first-of-none}
use Rattle.base.proofs.FirstLaws.{first-of-parts-none}
use Rattle.tables.specs.Reading.{rows, refusal}
use Rattle.checking.proofs.FilesLaws.{supply-count, schedules-count}
use Rattle.checking.proofs.KeptLaws.{constraint-kept, supply-kept, schedules-kept, curves-kept, units-few, suppliers-few}
use Rattle.tables.proofs.Accepted.{accepted}
use Rattle.tables.specs.promises.FlatRows.{supply_rows, schedule_rows}
use Rattle.outcome.proofs.Sound.{some-units}
use Rattle.choice.specs.promises.Ranges.{ScheduleCells}
use Rattle.decision.specs.promises.Standing.{MarketCells}
use Rattle.decision.specs.promises.Units.{UnitsOf}

-- as many parties as suppliers, since a row counts for its supplier
pub parties-suppliers : (rows : List SupplyRow) → parties rows ≡ suppliers rows
unfolding parties suppliers party
parties-suppliers rows = refl

-- the cells of a market that passed
module _ (c s supply us : List ℕ) {q : Result Market Refusal} (checked : MarketChecked c s supply us q) (m : Market) (e : q ≡ Ok m) where
  pub market-none : first_of (market_refusals c s) ≡ None
  market-none = (told c s supply us checked m e).0

  pub market-constraint : m.constraint ≡ constraint_of c
  market-constraint = rw (told c s supply us checked m e).1

  pub market-rows : supply_rows m.rows supply ≡ supply_of s
  market-rows = rw (told c s supply us checked m e).1 (checked.kept market-none).rows

  pub market-cells : 1280 ≤ length supply → MarketCells m.constraint m.rows supply
  market-cells room =
      let read = market-kept c s supply us checked m e in
      let few : m.rows ≤ 256 = rw ((told c s supply us checked m e).1, supply-count s) (accepted Supply s read.1).most in
      record {
        permitted = rw market-constraint (constraint-kept c read.0);
        rows =
            record {
              inside = omega arith;
              few = few;
              permitted = λ r i. all-mem (supply-kept s read.1) (rw market-rows at i);
            };
        few-parties = rw (market-rows, parties-suppliers (supply_of s)) (suppliers-few (supply_of s) read.2);
      }

  pub market-units : most_units < length us → UnitsOf m.units (supply_rows m.rows supply) us
  market-units room =
      let read = market-kept c s supply us checked m e in
      let few = units-few (supply_of s) read.2 in
      rw (market-rows, (told c s supply us checked m e).1)
      (record {
        few = few;
        there = omega arith;
        counted = refl;
        listed = (checked.kept market-none).listed;
        rising = units-rising (some-units (supply-kept s read.1));
      })

-- the cells of schedules that passed, with curves
module _
    (w : Option Refusal) (hour : ℕ) (us h k cells links : List ℕ) {p : Result ℕ Refusal}
    (checked : SchedulesChecked (beside_refusals (w ∷ []) hour us h k) (priced_rows h k) cells links p)
  where
    pub schedules-refuse : (x : Refusal) → p ≡ Err x → first_of (beside_refusals (w ∷ []) hour us h k) ≡ Some x
    schedules-refuse x f = refused-answered _ (length (priced_rows h k)) (sym checked.answers ∙ f)

    module _ (n : ℕ) (f : p ≡ Ok n) where
      rows_told : (first_of (beside_refusals (w ∷ []) hour us h k) ≡ None) × (n ≡ length (priced_rows h k))
      rows_told = rows-answered _ (length (priced_rows h k)) (sym checked.answers ∙ f)

      pub schedules-none : first_of (beside_refusals (w ∷ []) hour us h k) ≡ None
      schedules-none = rows_told.0

      pub schedules-rows : schedule_rows n cells ≡ priced_rows h k
      schedules-rows = rw rows_told.1 (checked.kept schedules-none).laid

      pub schedules-linked : RowsLinked cells n links
      schedules-linked = rw rows_told.1 (checked.kept schedules-none).linked

      read : (refusal Schedules h ≡ None) × (refusal Curves (or_header Curves k) ≡ None)
      unfolding beside_refusals schedules_refusals curves_refusals alone_refusals
      read =
          let (of-schedules, behind) = first-of-parts-none (schedules_refusals us h) _ schedules-none in
          let (of-curves, _) = first-of-parts-none (curves_refusals (schedules_of h) k) _ behind in
          ((first-of-none (refusal Schedules h) _ of-schedules).0, (first-of-none (refusal Curves (or_header Curves k)) _ of-curves).0)

      pub schedules-cells : 9216 ≤ length cells → ScheduleCells n cells
      schedules-cells room =
          let count : n ≡ length (rows h) = rows_told.1 ∙ priced-count (curves_of k) (schedules_of h) ∙ schedules-count h in
          let few : n ≤ 1024 = rw count (accepted Schedules h read.0).most in
          record {
            few = few;
            room = omega arith;
            ranged = λ r i. all-mem (priced-permitted (curves-kept k read.1) (schedules-kept h read.0)) (rw schedules-rows at i);
          }
