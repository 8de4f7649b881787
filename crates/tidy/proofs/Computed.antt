-- Files tidied and refused, as one table each: document 01's starred example, which is tidy already, and what a hurried eye takes for
-- something else. Computed by the checker. Assumes nothing.
use Prim.Native.Nat.{ℕ}
use mathlib.Core.Path.{◌≡◌, refl}
use mathlib.Core.List.{List, []}
use lib.ListN.{replicate}
use Rattle.base.specs.Text.{bytes}
use Rattle.base.proofs.Computing.{rising_all}
use Rattle.numbers.proofs.Computing.{numbers_all}
use Rattle.tables.specs.Refusals.{refused, bare_refusal}
use Rattle.tables.specs.declared.files.File.TheVariants.{Constraint, Supply, Schedules}
use Rattle.tables.proofs.Starred.{constraint_file, supply_file, schedules_file, starred_all}
use Rattle.supply.proofs.Computing.{supply_all}
use Rattle.schedules.proofs.Computing.{schedules_all}
use Rattle.checking.specs.Files.{rows_as_cells}
use Rattle.checking.proofs.Computing.{files_all}
use Rattle.tidy.specs.Tidy.{tidy_of, tidied}
use Rattle.tidy.proofs.Computing.{tidy_all, tidying_all}

-- a field in quotes, and no CR LF at the end
abbrev quoted_constraint : List ℕ
quoted_constraint = bytes "hour,relief,cutoff\r\n5,\"1000\",300"

-- a dfax below zero, in quotes, and one of zero
abbrev signed_supply : List ℕ
signed_supply = bytes "unit,supplier,mw,cost,dfax\r\n12,2,1000,3000,\"-5000\"\r\n15,5,1000,3000,0"

abbrev signed_tidy : List ℕ
signed_tidy = bytes "unit,supplier,mw,cost,dfax\r\n12,2,1000,3000,-5000\r\n15,5,1000,3000,0\r\n"

pub tidy-starred :
    (tidy_of Constraint constraint_file ≡ constraint_file)
    × (tidy_of Supply supply_file ≡ supply_file)
    × (tidy_of Schedules schedules_file ≡ schedules_file)
    × (tidy_of Constraint quoted_constraint ≡ constraint_file)
    × (tidy_of Supply signed_supply ≡ signed_tidy)
unfolding tidy_all rows_as_cells starred_all
tidy-starred = (refl, refl, refl, refl, refl)

abbrev no_rows : List ℕ
no_rows = bytes "unit,supplier,mw,cost,dfax\r\n"

-- the second row gives the unit another supplier
abbrev at_odds : List ℕ
at_odds = bytes "unit,supplier,mw,cost,dfax\r\n11,1,9,9,9\r\n11,2,9,9,9\r\n"

-- an exact fit, one byte less, no bytes of a file, schedules of units in no supply, and 6 before 30
pub tidy-traps :
    (tidied Supply no_rows (replicate 28 0) ≡ record { told = bare_refusal 0; count = 28; buffer = no_rows })
    × (tidied Supply no_rows (replicate 27 0) ≡ record { told = bare_refusal 30; count = 0; buffer = replicate 27 0 })
    × ((tidied Schedules [] []).told ≡ refused 2 Schedules 0)
    × ((tidied Schedules schedules_file schedules_file).told ≡ bare_refusal 0)
    × ((tidied Supply at_odds []).told ≡ refused 6 Supply 2)
unfolding tidying_all files_all rising_all numbers_all supply_all schedules_all starred_all
tidy-traps = (refl, refl, refl, refl, refl)
