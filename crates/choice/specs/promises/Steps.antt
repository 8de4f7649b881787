-- What one row of a study brings to the choice for a unit: nothing where it is another unit's. Assumes nothing.
use Rattle.std.specs.Prelude.{ℕ, Bool, cond, ◌&&◌, eqb, Option}
use Rattle.tables.specs.Rows.{ScheduleRow}
use Rattle.choice.specs.declared.kinds.Kinds.{Kinds}
use Rattle.choice.specs.declared.choices.Choice.{Choice}
use Rattle.choice.specs.Cost.{share}
use Rattle.choice.specs.Schedules.{at_hour, of_kinds}
use Rattle.choice.specs.Choosing.{kept}

-- whether a row is a schedule's, and the schedule of these kinds
unfoldable pub offers : ℕ → Kinds → ScheduleRow → Bool
offers h kinds row = at_hour h row && of_kinds kinds row

-- whether a row is of the unit u, and of a schedule of these kinds at the hour h
unfoldable pub own_offers : ℕ → ℕ → Kinds → ScheduleRow → Bool
own_offers u h kinds row = eqb row.unit u && offers h kinds row

-- what is kept of an earlier choice and the row
unfoldable pub weighed : ℕ → ℕ → Kinds → (ScheduleRow → Choice) → Option Choice → ScheduleRow → Option Choice
weighed u h kinds show b row = cond (own_offers u h kinds row) (kept b (show row)) b

-- what the row adds to the cost of the run of a schedule of the unit u
unfoldable pub own_share : ℕ → ℕ → ScheduleRow → ScheduleRow → ℕ
own_share u h schedule row = cond (eqb row.unit u) (share h schedule row) 0
