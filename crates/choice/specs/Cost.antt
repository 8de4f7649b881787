-- Document 01, "Capped offer" and "Choice of schedule": what an hour of a schedule costs, and what a schedule costs. A
-- schedule is given by its row for the study hour h, and the rows are all those of its unit. Assumes nothing of the rows:
-- that those of one schedule share startup and minrun and have each hour of the run once are refusals 6 and 9.
use Rattle.std.specs.Prelude.{ℕ, ◌+◌, ◌*◌, Bool, cond, ◌&&◌, List, [], ◌∷◌, eqb}
use Rattle.offers.specs.Offer.{capped}
use Rattle.hours.specs.Hours.{in_run}
use Rattle.tables.specs.Table.{highest_ecomin, highest_cost}
use Rattle.tables.specs.Rows.{ScheduleRow, kind_of}
use Rattle.tables.specs.declared.files.Kind.{Kind}
use Rattle.tables.specs.declared.files.Kind.TheVariants.{M, C}

-- the capped offer "is .. the offer price of a C row. An M row's offer price is its price."
unfoldable pub offer_price : Kind → ℕ → ℕ
offer_price M listed = listed
offer_price C listed = capped listed

-- the price of a schedule's hour
unfoldable pub price : ScheduleRow → ℕ
price row = offer_price (kind_of row.kind) row.price

-- "The cost of an hour is ecomin × offer price + 10 × noload, in tenths of a cent."
unfoldable pub hour_cost : ScheduleRow → ℕ
hour_cost row = row.ecomin * price row + 10 * row.noload

-- the most that it can be, by the ranges of the columns
abbrev pub most_hour : ℕ
most_hour = highest_ecomin * highest_cost + 10 * 100000000

-- "A running unit's schedule costs the hour h alone."
unfoldable pub running_cost : ScheduleRow → ℕ
running_cost schedule = hour_cost schedule

-- whether a row is an hour of the schedule's run
unfoldable pub in_its_run : ℕ → ScheduleRow → ScheduleRow → Bool
in_its_run h schedule row = eqb row.schedule schedule.schedule && in_run h schedule.minrun row.hour

-- what a row adds to the cost of the schedule's run
unfoldable pub share : ℕ → ScheduleRow → ScheduleRow → ℕ
share h schedule row = cond (in_its_run h schedule row) (hour_cost row) 0

-- "the sum over the schedule's run"
unfoldable pub run_cost : ℕ → ScheduleRow → List ScheduleRow → ℕ
run_cost h schedule [] = 0
run_cost h schedule (row ∷ rows) = share h schedule row + run_cost h schedule rows

-- "A unit not running costs the sum over the schedule's run, plus 10 × startup."
unfoldable pub starting_cost : ℕ → List ScheduleRow → ScheduleRow → ℕ
starting_cost h rows schedule = run_cost h schedule rows + 10 * schedule.startup

unfoldable pub cost : Bool → ℕ → List ScheduleRow → ScheduleRow → ℕ
cost running h rows schedule = cond running (running_cost schedule) (starting_cost h rows schedule)
