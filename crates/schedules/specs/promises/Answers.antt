-- What the searches over schedule rows answer and go by. Assumes nothing.
use Rattle.std.specs.Prelude.{ℕ, zero, suc, ◌<◌, ◌≡◌, Bool, true, ◌&&◌, List, [], ◌∷◌, eqb}
use Rattle.base.specs.Rising.{among}
use Rattle.base.specs.Search.{any}
use Rattle.tables.specs.Rows.{ScheduleRow}
use Rattle.tables.specs.Table.{M}
use Rattle.cells.specs.promises.Views.{schedule_at}
use Rattle.schedules.specs.Schedules.{schedule_odds}

-- the rows before row k of a run, the last first
unfoldable pub schedules_before : List ℕ → ℕ → List ScheduleRow
schedules_before cells zero = []
schedules_before cells (suc k) = schedule_at cells k ∷ schedules_before cells k

-- whether row k is at odds with row j
abbrev pub odd_with : List ℕ → ℕ → ℕ → Bool
odd_with cells k j = schedule_odds (schedule_at cells k) (schedule_at cells j)

-- whether two rows are alike in what rows of one schedule share
unfoldable pub alike : ScheduleRow → ScheduleRow → Bool
alike r e = eqb r.kind e.kind && eqb r.startup e.startup && eqb r.minrun e.minrun

-- whether both are market-based
unfoldable pub both_market : ScheduleRow → ScheduleRow → Bool
both_market r e = eqb r.kind M && eqb e.kind M

-- whether a row is of a unit, and whether one of some rows is
abbrev pub is_of : ℕ → ScheduleRow → Bool
is_of u r = eqb r.unit u

abbrev pub has_row : ℕ → List ScheduleRow → Bool
has_row u rs = any (is_of u) rs

-- the units of the rows before row k are among some
abbrev pub KnownBefore : List ℕ → List ℕ → ℕ → Type 0
KnownBefore us cells k = (j : ℕ) → j < k → among (schedule_at cells j).unit us ≡ true
