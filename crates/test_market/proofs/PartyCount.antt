-- There are no more parties than rows. Assumes nothing.
use Prim.Native.Nat.{ℕ, ◌<◌}
use mathlib.Core.List.{List}
use native.Mathlib.Omega.{arith}
use lib.ListN.{length}
use Rattle.numbers.proofs.NumberLaws.{numbers-most}
use Rattle.cells.proofs.RowViews.{supply-length}
use Rattle.market.specs.Parties.{party, parties}
use Rattle.offers.specs.promises.Ranges.{SupplyCells}
use Rattle.tables.specs.promises.FlatRows.{supply_rows}

-- a run longer than the most rows has room for the parties of any cells
pub cells-parties : (n : ℕ) (cells : List ℕ) → SupplyCells n cells → (m : ℕ) → 256 < m → length (parties (supply_rows n cells)) < m
unfolding parties
cells-parties n cells s m h = omega (arith, s.few, numbers-most party (supply_rows n cells), supply-length n cells)
