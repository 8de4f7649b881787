-- What reading a file answers, and the cells that it lays down. Assumes nothing.
use Rattle.std.specs.Prelude.{ℕ, List, [], ◌∷◌, ◌++◌, length, Err, None, Ok, Option, Result, Some}
use Rattle.tables.specs.Reading.{rows, misshapen, refusal}
use Rattle.tables.specs.Table.{Column, table}
use Rattle.tables.specs.Values.{cells}
use Rattle.tables.specs.declared.files.File.{File}
use Rattle.tables.specs.declared.files.Refusal.{Refusal}

-- the cells of several rows, one row behind the other
unfoldable pub all_cells : List Column → List (List (List ℕ)) → List ℕ
all_cells cs [] = []
all_cells cs (r ∷ rs) = cells cs r ++ all_cells cs rs

unfoldable pub reading : File → List ℕ → Result ℕ Refusal
reading f s = answer (refusal f s)
  where
    answer : Option Refusal → Result ℕ Refusal
    answer None = Ok (length (rows s))
    answer (Some r) = Err r

-- the cells that reading lays down: every row's, unless the file is misshapen
unfoldable pub laid : File → List ℕ → List ℕ
laid f s = lay (misshapen f s)
  where
    lay : Option Refusal → List ℕ
    lay None = all_cells (table f).columns (rows s)
    lay (Some r) = []
