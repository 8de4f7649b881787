-- How the market stands, as the code answers it, and the parties and amounts that it lays down. Assumes nothing.
use Rattle.std.specs.Prelude.{ℕ, ◌≤◌, ◌≡◌, false, cond, List, length, take, Option, Some, None}
use Rattle.tables.specs.promises.Ranges.{PermittedConstraint}
use Rattle.tables.specs.Rows.{SupplyRow}
use Rattle.tables.specs.declared.constraint.ConstraintRow.{ConstraintRow}
use Rattle.tables.specs.promises.FlatRows.{supply_rows}
use Rattle.market.specs.Clearing.{clearing, need_of}
use Rattle.market.specs.Parties.{parties, amounts}
use Rattle.offers.specs.promises.Ranges.{SupplyCells}
use Rattle.pivotal.specs.Test.{most_amounts}
use Rattle.outcome.specs.Decision.{untested, cleared}
use Rattle.decision.specs.declared.standing.Cleared.{Cleared}

-- as many parties as the test takes amounts
abbrev pub most_parties : ℕ
most_parties = most_amounts

-- what holds of the constraint and the supply rows of a study: they are in their ranges, and of few parties
pub record MarketCells (c : ConstraintRow) (n : ℕ) (cells : List ℕ) : Type 0 where
  pub permitted : PermittedConstraint c
  pub rows : SupplyCells n cells
  pub few-parties : length (parties (supply_rows n cells)) ≤ most_parties

module _ (c : ConstraintRow) (supply : List SupplyRow) where
  unfoldable pub standing : Option Cleared
  standing = cond (untested c supply) None (Some (record { row = clearing c.cutoff (need_of c.relief) supply; parties = length (parties supply) }))

  pub record Stands (ps amounts' : List ℕ) (r : Option Cleared) : Type 0 where
    pub answers : r ≡ standing
    pub listed : untested c supply ≡ false → take (length (parties supply)) ps ≡ parties supply
    pub added : untested c supply ≡ false → take (length (parties supply)) amounts' ≡ amounts c.cutoff (cleared c supply) supply
