-- Document 01, "Files": the one fixed table of the files, their headers, columns, permitted ranges and numbers of rows. And
-- document 02, F-3: "A study's fourth file (curves.csv) `unit,schedule,hour,mw,price` brings at most .. 4096 rows; its mw ranges as
-- ecomin, its other columns as in the schedules", F-4: "Cost and price now go to 370000", and F-6: "A study's fifth file (parents.csv)
-- `supplier,parent`, at most 64 rows", "both columns range as supplier does". Assumes nothing.
use Rattle.std.specs.Prelude.{ℕ, List, [], ◌∷◌, ◌++◌, map, length}
use Prim.Native.String.{String}
use Rattle.base.specs.Text.{bytes}
-- what a field may hold: a numeral; a numeral, or `-` and a nonzero numeral, whose minimum stands in the table without the minus; one of
-- two letters, which stand in the table as its minimum and maximum
use Rattle.tables.specs.declared.columns.Form.{Form}
use Rattle.tables.specs.declared.columns.Form.TheVariants.{Numeral as numeral, Signed as signed, Letter as letter}
use Rattle.tables.specs.declared.files.File.{File}
use Rattle.tables.specs.declared.files.File.TheVariants.{Constraint, Supply, Schedules, Curves, Parents}
use Rattle.csv_text.specs.Bytes.{COMMA, CR, LF}

pub record Column : Type 0 where
  pub name : List ℕ
  pub form : Form
  pub minimum : ℕ
  pub maximum : ℕ

pub record Table : Type 0 where
  -- its number in a refusal
  pub number : ℕ
  pub columns : List Column
  pub fewest_rows : ℕ
  pub most_rows : ℕ

abbrev pub column : String → Form → ℕ → ℕ → Column
column name form minimum maximum = record { name = bytes name; form = form; minimum = minimum; maximum = maximum }

-- the letters of a kind: market-based and cost-based
abbrev pub M : ℕ
M = 0x4D

abbrev pub C : ℕ
C = 0x43

-- the maximum of the hours, of suppliers' numbers, of ecomin, and of costs and prices
abbrev pub latest_hour : ℕ
latest_hour = 23

abbrev pub highest_supplier : ℕ
highest_supplier = 999

abbrev pub highest_ecomin : ℕ
highest_ecomin = 100000

abbrev pub highest_cost : ℕ
highest_cost = 370000

-- the columns that files share, and that a day's numbers have; behind each its unit of measure
abbrev pub hour_column : Column
hour_column = column "hour" numeral 0 latest_hour  -- hours

abbrev pub unit_column : Column
unit_column = column "unit" numeral 1 9999  -- a number

abbrev pub supplier_column : Column
supplier_column = column "supplier" numeral 1 highest_supplier  -- a number

abbrev pub schedule_column : Column
schedule_column = column "schedule" numeral 1 99  -- a number

abbrev pub price_column : Column
price_column = column "price" numeral 0 highest_cost  -- cents per MWh

unfoldable pub constraint_columns : List Column
constraint_columns =
    hour_column
    ∷ column "relief" numeral 1 1000000  -- tenths of a MW
    ∷ column "cutoff" numeral 1 10000  -- ten-thousandths
    ∷ []

unfoldable pub supply_columns : List Column
supply_columns =
    unit_column
    ∷ supplier_column
    ∷ column "mw" numeral 1 100000  -- tenths of a MW
    ∷ column "cost" numeral 0 highest_cost  -- cents per MWh
    ∷ column "dfax" signed 10000 10000  -- ten-thousandths, from -10000
    ∷ []

unfoldable pub schedules_columns : List Column
schedules_columns =
    unit_column
    ∷ schedule_column
    ∷ column "kind" letter C M  -- a letter
    ∷ hour_column
    ∷ column "ecomin" numeral 0 highest_ecomin  -- tenths of a MW
    ∷ price_column
    ∷ column "noload" numeral 0 100000000  -- cents per hour
    ∷ column "startup" numeral 0 100000000  -- cents
    ∷ column "minrun" numeral 1 24  -- hours
    ∷ []

unfoldable pub curves_columns : List Column
curves_columns =
    unit_column
    ∷ schedule_column
    ∷ hour_column
    ∷ column "mw" numeral 0 highest_ecomin  -- tenths of a MW
    ∷ price_column
    ∷ []

unfoldable pub parents_columns : List Column
parents_columns =
    supplier_column
    ∷ column "parent" numeral 1 highest_supplier  -- a number
    ∷ []

abbrev pub table : File → Table
table Constraint = record { number = 1; columns = constraint_columns; fewest_rows = 1; most_rows = 1 }
table Supply = record { number = 2; columns = supply_columns; fewest_rows = 0; most_rows = 256 }
table Schedules = record { number = 3; columns = schedules_columns; fewest_rows = 0; most_rows = 1024 }
table Curves = record { number = 4; columns = curves_columns; fewest_rows = 0; most_rows = 4096 }
table Parents = record { number = 5; columns = parents_columns; fewest_rows = 0; most_rows = 64 }

unfoldable pub header : File → List (List ℕ)
header f = map (λ (c : Column). c.name) (table f).columns

-- texts with a COMMA between each two
unfoldable pub joined : List (List ℕ) → List ℕ
joined [] = []
joined (v ∷ []) = v
joined (v ∷ w ∷ vs) = v ++ COMMA ∷ joined (w ∷ vs)

-- a record of some fields, unquoted, with the CR LF behind it
abbrev pub record_text : List (List ℕ) → List ℕ
record_text vs = joined vs ++ CR ∷ LF ∷ []

unfoldable pub header_text : File → List ℕ
header_text f = record_text (header f)

unfoldable pub width : File → ℕ
width f = length (table f).columns
