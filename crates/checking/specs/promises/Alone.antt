-- What the readers of one file alone promise: the first of its refusals, or its rows, which then stand in the lent runs.
-- Assumes nothing.
use Rattle.checking.specs.declared.supply_file.Supplied.{Supplied}
use Rattle.tables.specs.declared.constraint.ConstraintRow.{ConstraintRow}
use Rattle.std.specs.Prelude.{ℕ, ◌≡◌, List, length, take, Err, None, Ok, Option, Result, Some}
use Rattle.base.specs.Search.{first_of}
use Rattle.tables.specs.Rows.{ScheduleRow}
use Rattle.tables.specs.declared.files.File.TheVariants.{Constraint, Supply}
use Rattle.tables.specs.declared.files.Refusal.{Refusal}
use Rattle.tables.specs.promises.FlatRows.{supply_rows, schedule_rows}
use Rattle.links.specs.promises.Links.{RowsLinked}
use Rattle.supply.specs.Supply.{units}
use Rattle.checking.specs.Files.{constraint_of, supply_of, alone_refusals}

-- the constraint's row, unless there is a refusal
abbrev pub constraint_unless : Option Refusal → List ℕ → Result ConstraintRow Refusal
constraint_unless None c = Ok (constraint_of c)
constraint_unless (Some r) c = Err r

unfoldable pub constraint_checked : List ℕ → Result ConstraintRow Refusal
constraint_checked c = constraint_unless (first_of (alone_refusals Constraint c)) c

-- how many rows and units supply has, likewise
abbrev pub supply_unless : Option Refusal → List ℕ → Result Supplied Refusal
supply_unless None s = Ok (record { rows = length (supply_of s); units = length (units (supply_of s)) })
supply_unless (Some r) s = Err r

-- the rows of supply at the start of a run of cells, and its units by rising number at the start of another
pub record SupplyKept (s cells us : List ℕ) : Type 0 where
  pub rows : supply_rows (length (supply_of s)) cells ≡ supply_of s
  pub listed : take (length (units (supply_of s))) us ≡ units (supply_of s)

pub record SupplyChecked (s cells us : List ℕ) (r : Result Supplied Refusal) : Type 0 where
  pub answers : r ≡ supply_unless (first_of (alone_refusals Supply s)) s
  pub kept : first_of (alone_refusals Supply s) ≡ None → SupplyKept s cells us

-- n rows, unless there is a refusal
abbrev pub rows_unless : Option Refusal → ℕ → Result ℕ Refusal
rows_unless None n = Ok n
rows_unless (Some r) n = Err r

-- rows of schedules at the start of a run of cells, and linked
pub record SchedulesKept (rows : List ScheduleRow) (cells links : List ℕ) : Type 0 where
  pub laid : schedule_rows (length rows) cells ≡ rows
  pub linked : RowsLinked cells (length rows) links

-- such rows, as far as some refusals
pub record SchedulesChecked (refusals : List (Option Refusal)) (rows : List ScheduleRow) (cells links : List ℕ) (r : Result ℕ Refusal) : Type 0 where
  pub answers : r ≡ rows_unless (first_of refusals) (length rows)
  pub kept : first_of refusals ≡ None → SchedulesKept rows cells links
