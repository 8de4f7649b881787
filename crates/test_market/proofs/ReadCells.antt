-- The cells of a supply file that was read are rows within the table's ranges. Assumes nothing.
use Rattle.std.specs.Prelude.{None, Ok, Result}
use Rattle.tables.specs.declared.files.Refusal.{Refusal}
use Prim.Native.Nat.{ℕ, ◌≤◌}
use mathlib.Core.Path.{◌≡◌, ap}
use mathlib.Core.List.{List, map, Memᴰ}
use native.Mathlib.Omega.{arith}
use lib.ListN.{length, drop}
use Rattle.base.specs.Search.{All, all_none, all_more}
use Rattle.base.proofs.Members.{for-cons}
use Rattle.tables.specs.promises.Laying.{room, FileRead}
use Rattle.tables.specs.promises.Ranges.{PermittedCells, PermittedSupply}
use Rattle.tables.specs.Reading.{rows, refusal}
use Rattle.tables.specs.Rows.{SupplyRow, supply_row}
use Rattle.tables.specs.Table.{constraint_columns, supply_columns, schedules_columns, width}
use Rattle.tables.specs.Values.{cells as cells_of}
use Rattle.tables.specs.declared.files.File.TheVariants.{Supply}
use Rattle.tables.proofs.Accepted.{accepted}
use Rattle.tables.proofs.Permitted.{supply-permitted}
use Rattle.tables.specs.promises.Answers.{laid}
use Rattle.tables.specs.promises.FlatRows.{supply_rows}
use Rattle.tables.specs.promises.Columns.{all_columns, column_at}
use Rattle.checking.proofs.FilesLaws.{was_read}
use Rattle.offers.specs.promises.Ranges.{SupplyCells, most_relief}

-- a relief that the table permits
pub relief-permitted : (relief : ℕ) → relief ≤ 1000000 → relief ≤ most_relief
unfolding column_at all_columns constraint_columns supply_columns schedules_columns
relief-permitted relief h = h

pub room-enough : (n : ℕ) → 1280 ≤ n → room Supply ≤ n
unfolding room width supply_columns
room-enough n h = omega arith

all-permitted :
    {rs : List (List ℕ)} → All (PermittedCells supply_columns) rs → (r : SupplyRow) → Memᴰ r (map supply_row rs) → PermittedSupply r
all-permitted all_none r m = elim m [ ]
all-permitted (all_more p ps) r m = for-cons PermittedSupply (supply-permitted p) (all-permitted ps) r m

module _ (s old new : List ℕ) (r : Result ℕ Refusal) (n : ℕ) (w : FileRead Supply s old new r) (e : r ≡ Ok n) where
  taken : refusal Supply s ≡ None
  taken = (was_read Supply s w.answers e).0

  count : n ≡ length (rows s)
  count = (was_read Supply s w.answers e).1

  rows-read : supply_rows n new ≡ map supply_row (map (cells_of supply_columns) (rows s))
  unfolding supply_rows width supply_columns
  rows-read = rw (count, w.lays) (ap (map supply_row) ((accepted Supply s taken).viewed (drop (length (laid Supply s)) old)))

  pub read-cells : 1280 ≤ length new → SupplyCells n new
  read-cells h =
      record {
        inside = omega (arith, count, (accepted Supply s taken).most);
        few = omega (arith, count, (accepted Supply s taken).most);
        permitted = λ q m. all-permitted (accepted Supply s taken).permitted q (rw rows-read at m);
      }
