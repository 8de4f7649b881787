-- A unit's test, as the code answers it. Assumes nothing.
use Rattle.std.specs.Prelude.{ℕ, ◌≡◌, false, List}
use Rattle.tables.specs.Rows.{SupplyRow}
use Rattle.tables.specs.declared.constraint.ConstraintRow.{ConstraintRow}
use Rattle.market.specs.Clearing.{clearing, need_of}
use Rattle.market.specs.Parties.{party, parties, amounts}
use Rattle.outcome.specs.Decision.{untested, cleared, unit_row, verdict_of, left_shown, exposed_unit}
use Rattle.decision.specs.declared.testing.UnitTest.{UnitTest}
use Rattle.pivotal.specs.Test.{verdict_letter}

module _ (c : ConstraintRow) (supply : List SupplyRow) where
  unfoldable pub unit_test : ℕ → UnitTest
  unit_test u =
      let k = party (unit_row supply u) in
      record {
        unit = u;
        supplier = (unit_row supply u).supplier;
        verdict = verdict_letter (verdict_of c supply k);
        left = left_shown c supply k;
        exposed = exposed_unit c supply u;
      }

  -- a market that is not short, with the place of the row that clears, its parties and their amounts
  pub record InMarket (q : ℕ) (ps amounts' : List ℕ) : Type 0 where
    pub enough : untested c supply ≡ false
    pub clears : q ≡ clearing c.cutoff (need_of c.relief) supply
    pub all-parties : ps ≡ parties supply
    pub all-amounts : amounts' ≡ amounts c.cutoff (cleared c supply) supply
