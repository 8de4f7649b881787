-- Parents as the code has them: rows in cells, and a run with a place for each number that a supplier may have, where its
-- parent stands, 0 for none. Assumes nothing.
use Rattle.std.specs.Prelude.{ℕ, ◌*◌, ◌≤◌, ◌<◌, ◌≡◌, cond, eqb, length, get_or, None, Option, Some}
use mathlib.Core.List.{List, map, Memᴰ as Among}
use Rattle.tables.specs.promises.Ranges.{PermittedParent}
use Rattle.tables.specs.Rows.{SupplyRow, ParentRow}
use Rattle.tables.specs.Table.{highest_supplier, table}
use Rattle.tables.specs.declared.files.File.TheVariants.{Parents}
use Rattle.tables.specs.promises.FlatRows.{supply_rows, parent_rows}
use Rattle.cells.specs.promises.Views.{supply_width, parent_width}
use Rattle.affiliates.specs.Affiliates.{parent_of, head_from, given_twice, in_place}

-- n rows of parents that stand in cells, within their ranges
pub record ParentCells (n : ℕ) (cells : List ℕ) : Type 0 where
  pub few : n ≤ (table Parents).most_rows
  pub inside : n * parent_width ≤ length cells
  pub permitted : (r : ParentRow) → Among r (parent_rows n cells) → PermittedParent r

-- n rows of supply that stand in cells, of suppliers within their range
pub record SupplierCells (n : ℕ) (cells : List ℕ) : Type 0 where
  pub inside : n * supply_width ≤ length cells
  pub ranged : (r : SupplyRow) → Among r (supply_rows n cells) → r.supplier ≤ highest_supplier

-- the parent that stands at a supplier's place
unfoldable pub parent_in : List ℕ → ℕ → Option ℕ
parent_in run s = cond (eqb (get_or run s 0) 0) None (Some (get_or run s 0))

-- a run of such places
pub record ParentRun (run : List ℕ) : Type 0 where
  pub places : highest_supplier < length run
  pub ranged : (s : ℕ) → get_or run s 0 ≤ highest_supplier

-- and one before any parent is laid down
abbrev pub Cleared : List ℕ → Type 0
Cleared run = (s : ℕ) → get_or run s 0 ≡ 0

-- the parents of these rows
pub record ParentsIn (ps : List ParentRow) (run : List ℕ) : Type 0 where
  pub a-run : ParentRun run
  pub held : (s : ℕ) → parent_in run s ≡ parent_of ps s

-- the first record that gives a supplier a second parent; and where there is none, the run of all parents
pub record ParentsLaid (ps : List ParentRow) (run : List ℕ) (r : Option ℕ) : Type 0 where
  pub place : r ≡ given_twice ps
  pub all-parents : given_twice ps ≡ None → ParentsIn ps run

-- the heads found so far stand at their suppliers' places
pub record HeadsIn (parents : List ℕ) (rows : ℕ) (heads : List ℕ) : Type 0 where
  pub places : highest_supplier < length heads
  pub found : (s : ℕ) → (get_or heads s 0 ≡ 0 → ⊥) → get_or heads s 0 ≡ head_from (parent_in parents) rows s

-- rows of supply with the heads in their suppliers' places
abbrev pub headed : List ℕ → ℕ → List SupplyRow → List SupplyRow
headed parents rows rs = map (in_place (head_from (parent_in parents) rows)) rs
