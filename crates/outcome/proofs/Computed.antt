-- Previews of document 01's starred example, as one table: units that its supply has and one that it hasn't, by the day that is given
-- and by groups, and what is told before 31. Computed by the checker. Assumes nothing.
use Rattle.std.specs.Prelude.{None, Some}
use Prim.Native.Nat.{ℕ, zero, suc}
use mathlib.Core.Path.{◌≡◌, refl}
use mathlib.Core.List.{List, [], ◌∷◌}
use Rattle.base.specs.Text.{bytes}
use Rattle.tables.specs.Refusals.{refused, bare_refusal}
use Rattle.tables.specs.Table.{M, C}
use Rattle.tables.specs.declared.answer.AnswerRow.{AnswerRow}
use Rattle.tables.specs.declared.files.File.TheVariants.{Schedules}
use Rattle.tables.specs.declared.files.Kind.TheVariants.{M as OnMarket, C as OnCost}
use Rattle.tables.specs.declared.files.Refusal.{Refusal}
use Rattle.tables.proofs.Starred.{constraint_file, supply_file}
use Rattle.checking.specs.Files.{files, Files}
use Rattle.pivotal.specs.Test.{F, verdict_letter}
use Rattle.outcome.specs.Day.{RunningUnit, DayView, fresh_day}
use Rattle.outcome.specs.Preview.{Previewing, previewed}
use Rattle.outcome.proofs.Computing.{preview_all}
use Rattle.outcome.proofs.Starred.{example_with, parents_file, engine_all}

abbrev shows : AnswerRow → Previewing
shows r = record { told = bare_refusal 0; row = Some r }

abbrev refuses : Refusal → Previewing
refuses r = record { told = r; row = None }

-- a row of unit 14, which fails, by what else it shows
abbrev unit14 : ℕ → ℕ → ℕ → ℕ → AnswerRow
unit14 left schedule kind cost =
    record { unit = 14; supplier = 4; verdict = verdict_letter F; left = left; schedule = schedule; kind = kind; cost = cost }

-- the example without unit 14's C row
abbrev without_cost : Files
without_cost =
    files constraint_file supply_file
    (bytes
    "unit,schedule,kind,hour,ecomin,price,noload,startup,minrun\r\n11,1,M,5,100,4000,50000,20000,1\r\n11,2,C,5,100,3000,50000,20000,1\r\n12,1,M,5,100,3300,0,0,1\r\n12,2,C,5,100,3000,0,0,1\r\n13,1,C,5,200,4000,0,1000,1\r\n14,1,M,5,100,5000,0,0,1\r\n")
    []
    []

abbrev at_hour : ℕ → DayView
at_hour h = record { hour = Some h; running = [] }

-- unit 14 runs on cost
abbrev on_cost : DayView
on_cost = record { hour = Some 5; running = record { unit = 14; schedule = 2; kind = OnCost } ∷ [] }

-- so many units run, numbered from one on
abbrev from : ℕ → ℕ → List RunningUnit
from u zero = []
from u (suc n) = record { unit = u; schedule = 1; kind = OnMarket } ∷ from (suc u) n

abbrev crowd : DayView
crowd = record { hour = None; running = from 101 61 }

pub previews :
    (previewed fresh_day (example_with [] []) 14 ≡ shows (unit14 5000000 1 M 500000))
    × (previewed on_cost (example_with [] []) 14 ≡ shows (unit14 5000000 2 C 220000))
    × (previewed fresh_day (example_with [] parents_file) 14 ≡ shows (unit14 0 1 M 500000))
    × (previewed fresh_day (example_with [] []) 15 ≡ refuses (bare_refusal 31))
    × (previewed (at_hour 24) (example_with [] []) 15 ≡ refuses (bare_refusal 24))
    × (previewed (at_hour 6) (example_with [] []) 15 ≡ refuses (bare_refusal 20))
    × (previewed on_cost without_cost 11 ≡ refuses (refused 21 Schedules 14))
    × (previewed crowd (example_with [] []) 15 ≡ refuses (bare_refusal 22))
unfolding engine_all preview_all
previews = (refl, refl, refl, refl, refl, refl, refl, refl)
