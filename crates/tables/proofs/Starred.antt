-- Document 01's starred example, as far as reading goes: its three files are read to their rows by the definition, which
-- the checker computes. Assumes nothing.
use Rattle.std.specs.Prelude.{Ok}
use Prim.Native.Nat.{ℕ}
use mathlib.Core.Path.{◌≡◌, refl}
use mathlib.Core.List.{List, [], ◌∷◌}
use Rattle.base.specs.Text.{bytes, same}
use Rattle.base.proofs.Computing.{search_all}
use Rattle.tables.specs.Table.{M, C}
use Rattle.tables.specs.declared.files.File.TheVariants.{Constraint, Supply, Schedules}
use Rattle.tables.specs.promises.Answers.{reading, laid}
use Rattle.csv_text.proofs.Computing.{reading_all}
use Rattle.numeral.proofs.Computing.{numeral_all}
use Rattle.tables.proofs.Computing.{table_reading_all, table_all, values_all}

abbrev pub constraint_file : List ℕ
constraint_file = bytes "hour,relief,cutoff\r\n5,1000,300\r\n"

abbrev pub supply_file : List ℕ
supply_file =
    bytes
    "unit,supplier,mw,cost,dfax\r\n11,1,1000,3000,5000\r\n12,2,1000,3000,-5000\r\n13,3,1000,4000,5000\r\n14,4,2000,2000,200\r\n"

abbrev pub schedules_file : List ℕ
schedules_file =
    bytes
    "unit,schedule,kind,hour,ecomin,price,noload,startup,minrun\r\n11,1,M,5,100,4000,50000,20000,1\r\n11,2,C,5,100,3000,50000,20000,1\r\n12,1,M,5,100,3300,0,0,1\r\n12,2,C,5,100,3000,0,0,1\r\n13,1,C,5,200,4000,0,1000,1\r\n14,1,M,5,100,5000,0,0,1\r\n14,2,C,5,100,2000,0,0,1\r\n"

-- opens every definition of reading
unfoldable pub starred_all : Unit {0}
unfolding search_all same reading_all numeral_all table_all values_all table_reading_all
starred_all = tt

constraint-read : reading Constraint constraint_file ≡ Ok 1
unfolding starred_all
constraint-read = refl

supply-read : reading Supply supply_file ≡ Ok 4
unfolding starred_all
supply-read = refl

schedules-read : reading Schedules schedules_file ≡ Ok 7
unfolding starred_all
schedules-read = refl

constraint-cells : laid Constraint constraint_file ≡ 5 ∷ 1000 ∷ 300 ∷ []
unfolding starred_all
constraint-cells = refl

-- dfax in excess of 10000
supply-cells :
    laid Supply supply_file
    ≡ 11 ∷ 1 ∷ 1000 ∷ 3000 ∷ 15000 ∷ 12 ∷ 2 ∷ 1000 ∷ 3000 ∷ 5000 ∷ 13 ∷ 3 ∷ 1000 ∷ 4000 ∷ 15000 ∷ 14 ∷ 4 ∷ 2000 ∷ 2000 ∷ 10200
    ∷ []
unfolding starred_all
supply-cells = refl

-- a kind as its letter
schedules-cells :
    laid Schedules schedules_file
    ≡ 11 ∷ 1 ∷ M ∷ 5 ∷ 100 ∷ 4000 ∷ 50000 ∷ 20000 ∷ 1 ∷ 11 ∷ 2 ∷ C ∷ 5 ∷ 100 ∷ 3000 ∷ 50000 ∷ 20000 ∷ 1
    ∷ 12 ∷ 1 ∷ M ∷ 5 ∷ 100 ∷ 3300 ∷ 0 ∷ 0 ∷ 1 ∷ 12 ∷ 2 ∷ C ∷ 5 ∷ 100 ∷ 3000 ∷ 0 ∷ 0 ∷ 1
    ∷ 13 ∷ 1 ∷ C ∷ 5 ∷ 200 ∷ 4000 ∷ 0 ∷ 1000 ∷ 1
    ∷ 14 ∷ 1 ∷ M ∷ 5 ∷ 100 ∷ 5000 ∷ 0 ∷ 0 ∷ 1 ∷ 14 ∷ 2 ∷ C ∷ 5 ∷ 100 ∷ 2000 ∷ 0 ∷ 0 ∷ 1 ∷ []
unfolding starred_all
schedules-cells = refl
