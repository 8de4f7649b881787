-- What the rules over schedule rows go by: why another file was not read, and the refusals behind 6, in their order. Assumes
-- nothing.
use Rattle.std.specs.Prelude.{ℕ, List, ◌∷◌, ◌++◌, Err, None, Ok, Option, Result, Some, option_map}
use Rattle.tables.specs.Rows.{ScheduleRow}
use Rattle.tables.specs.declared.files.File.TheVariants.{Schedules}
use Rattle.tables.specs.declared.files.Refusal.{Refusal}
use Rattle.tables.specs.Refusals.{refused}
use Rattle.schedules.specs.Schedules.{not_in_supply}
use Rattle.checking.specs.Files.{curves_refusals, units_refusals}

-- why a file was not read
abbrev pub refusal_in : Result ℕ Refusal → Option Refusal
refusal_in (Ok n) = None
refusal_in (Err r) = Some r

-- of rows that were read, all behind 7: those of curves, another file's refusal that waits for its turn, 8 and 9
unfoldable pub priced_refusals : Option Refusal → ℕ → List ℕ → List ScheduleRow → List ℕ → List (Option Refusal)
priced_refusals waiting hour us rs k = curves_refusals rs k ++ (waiting ∷ units_refusals hour us rs)

-- and with 7
unfoldable pub held_refusals : Option Refusal → ℕ → List ℕ → List ScheduleRow → List ℕ → List (Option Refusal)
held_refusals waiting hour us rs k = option_map (refused 7 Schedules) (not_in_supply us rs) ∷ priced_refusals waiting hour us rs k
