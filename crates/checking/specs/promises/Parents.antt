-- What checking parents promises: the first refusal, or supply by groups, in place. Assumes nothing.
use Rattle.std.specs.Prelude.{ℕ, ◌≡◌, List, length, None, Option, Result, Some}
use Rattle.base.specs.Search.{first_of}
use Rattle.tables.specs.Rows.{ParentRow}
use Rattle.tables.specs.declared.files.File.TheVariants.{Parents}
use Rattle.tables.specs.declared.files.Refusal.{Refusal}
use Rattle.tables.specs.promises.FlatRows.{supply_rows}
use Rattle.affiliates.specs.Affiliates.{grouped}
use Rattle.checking.specs.promises.Alone.{rows_unless}
use Rattle.checking.specs.Files.{parents_of, affiliate_refusals, alone_refusals}

-- n rows of supply in cells, by the groups of some parents unless there is a refusal
pub record Groups (o : Option Refusal) (ps : List ParentRow) (n : ℕ) (old new : List ℕ) (r : Result ℕ Refusal) : Type 0 where
  pub answers : r ≡ rows_unless o (length ps)
  pub by-groups : o ≡ None → supply_rows n new ≡ grouped ps (supply_rows n old)
  pub as_before : (x : Refusal) → o ≡ Some x → new ≡ old

-- of parents that were read, and of a file
abbrev pub RowsGrouped : List ParentRow → ℕ → List ℕ → List ℕ → Result ℕ Refusal → Type 0
RowsGrouped ps = Groups (first_of (affiliate_refusals ps)) ps

abbrev pub ParentsChecked : List ℕ → ℕ → List ℕ → List ℕ → Result ℕ Refusal → Type 0
ParentsChecked p = Groups (first_of (alone_refusals Parents p)) (parents_of p)
