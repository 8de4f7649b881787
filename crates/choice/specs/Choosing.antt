-- Document 01, "Choice of schedule": "The least cost is taken; at equal cost, the smallest schedule number." The choice
-- goes by the day's kind, exposure, the study hour and the unit's own rows, and nothing else. Assumes nothing; that it is
-- what demand 3 asks (`Right`) is shown in `proofs/ChoiceRight`.
use Rattle.std.specs.Prelude.{ℕ, Bool, cond, ◌&&◌, ◌||◌, List, [], ◌∷◌, map, ltb, eqb, None, Option, Some}
use Rattle.base.specs.Search.{those}
use Rattle.tables.specs.Rows.{ScheduleRow, kind_of}
use Rattle.tables.specs.declared.files.Kind.{Kind}
use Rattle.choice.specs.declared.choices.Choice.{Choice}
use Rattle.choice.specs.Cost.{cost}
use Rattle.choice.specs.Schedules.{schedules, is_running, eligible_schedule}

-- a schedule as an answer shows it
unfoldable pub shown : Option Kind → ℕ → List ScheduleRow → ScheduleRow → Choice
shown day h rows schedule =
    record { schedule = schedule.schedule; kind = kind_of schedule.kind; cost = cost (is_running day) h rows schedule }

-- whether a is to be taken rather than b
unfoldable pub better : Choice → Choice → Bool
better a b = ltb a.cost b.cost || eqb a.cost b.cost && ltb a.schedule b.schedule

-- what is kept of an earlier choice and one schedule more
unfoldable pub kept : Option Choice → Choice → Option Choice
kept None c = Some c
kept (Some b) c = cond (better c b) (Some c) (Some b)

-- what is kept of some, from the last to the first
unfoldable pub kept_all : List Choice → Option Choice
kept_all [] = None
kept_all (c ∷ cs) = kept (kept_all cs) c

-- the eligible schedules, as an answer shows them
unfoldable pub candidates : Option Kind → Bool → ℕ → List ScheduleRow → List Choice
candidates day exposed h rows =
    let all = schedules h rows in
    map (shown day h rows) (those (eligible_schedule day exposed all) all)

unfoldable pub choice : Option Kind → Bool → ℕ → List ScheduleRow → Option Choice
choice day exposed h rows = kept_all (candidates day exposed h rows)
