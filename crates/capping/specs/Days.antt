-- A day as host programs keep it, in a fixed array of cells: what any cells mean as a day, and the cells that stand for a day.
-- Assumes nothing: any cells whatever are a day, well-formed or not.
use Rattle.std.specs.Prelude.{ℕ, zero, suc, ◌+◌, ◌*◌, cond, ◌||◌, List, [], ◌∷◌, ◌++◌, eqb, length, get_or, None, Option, Some}
use Rattle.tables.specs.Rows.{kind_of, letter_of}
use Rattle.tables.specs.Table.{M, C}
use Rattle.outcome.specs.Day.{RunningUnit, DayView, most_running}
use Rattle.running.specs.View.{missing}

-- whether there is an hour, the hour and the count; behind them unit, kind and schedule of each place
abbrev pub first_place : ℕ
first_place = 3

abbrev pub place_width : ℕ
place_width = 3

abbrev pub day_length : ℕ
day_length = first_place + most_running * place_width

-- the hour, none where the first cell is 0
unfoldable pub hour_in : ℕ → ℕ → Option ℕ
hour_in has h = cond (eqb has 0) None (Some h)

-- a unit by its three cells; one whose kind is neither letter is seen with the number 0, which no unit has
unfoldable pub unit_in : ℕ → ℕ → ℕ → RunningUnit
unit_in u k s = cond (eqb k M || eqb k C) (record { unit = u; schedule = s; kind = kind_of k }) missing

abbrev pub unit_at : List ℕ → ℕ → RunningUnit
unit_at cells i =
    unit_in
    (get_or cells (first_place + i * place_width) 0)
    (get_or cells (first_place + i * place_width + 1) 0)
    (get_or cells (first_place + i * place_width + 2) 0)

-- the units of n places from the i-th on; a place past the cells has no kind
unfoldable pub units_from : List ℕ → ℕ → ℕ → List RunningUnit
units_from cells i zero = []
units_from cells i (suc n) = unit_at cells i ∷ units_from cells (suc i) n

-- the day that cells mean: what stands in places behind the count is no part of it
unfoldable pub day_in : List ℕ → DayView
day_in cells = record { hour = hour_in (get_or cells 0 0) (get_or cells 1 0); running = units_from cells 0 (get_or cells 2 0) }

-- the cells of an hour
unfoldable pub hour_cells : Option ℕ → List ℕ
hour_cells None = 0 ∷ 0 ∷ []
hour_cells (Some h) = 1 ∷ h ∷ []

-- the cells of a unit
abbrev pub unit_cells : RunningUnit → List ℕ
unit_cells r = r.unit ∷ letter_of r.kind ∷ r.schedule ∷ []

-- the cells of n places, of which the first hold these units and the others zeros
unfoldable pub place_cells : ℕ → List RunningUnit → List ℕ
place_cells zero rs = []
place_cells (suc n) [] = 0 ∷ 0 ∷ 0 ∷ place_cells n []
place_cells (suc n) (r ∷ rs) = unit_cells r ++ place_cells n rs

-- the cells that stand for a day; a fresh day's are all 0
unfoldable pub day_cells : DayView → List ℕ
day_cells d = hour_cells d.hour ++ (length d.running ∷ place_cells most_running d.running)
