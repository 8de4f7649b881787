-- Document 01, "The day": "An accepted study sets the hour and makes each of its units running on the chosen schedule; every
-- other running unit stays as it was." What committing the chosen units assumes, and a turn of the merge. Assumes nothing.
use Rattle.std.specs.Prelude.{ℕ, ◌+◌, ◌≤◌, ◌≡◌, Bool, ◌||◌, List, ◌∷◌, map, ltb, length, drop}
use Rattle.base.specs.Rising.{RisingFrom}
use Rattle.outcome.specs.Day.{RunningUnit, most_running, put_all, would_run}
use Rattle.running.specs.View.{unit_of}
use Rattle.running.specs.declared.committing.Turn.{Turn}

abbrev pub unit_numbers : List RunningUnit → List ℕ
unit_numbers cs = map (λ (c : RunningUnit). c.unit) cs

-- chosen units by rising number, with which no more units run than a day has places
pub record Fits (cs rs : List RunningUnit) : Type 0 where
  pub rising : RisingFrom 0 (unit_numbers cs)
  pub few : would_run (unit_numbers cs) rs ≤ most_running

-- whether running or chosen units are left, of which i and j are used up
unfoldable pub any_left : ℕ → ℕ → ℕ → ℕ → Bool
any_left i count j n = ltb i count || ltb j n

-- a turn: the next of what i running units and j chosen ones leave to be merged
pub record Turns (cs rs : List RunningUnit) (i j : ℕ) (t : Turn) : Type 0 where
  pub running-upto : i + t.running ≤ length rs
  pub chosen-upto : j + t.chosen ≤ length cs
  pub goes_on : 1 ≤ t.running + t.chosen
  pub merges : put_all (drop j cs) (drop i rs) ≡ unit_of t.next ∷ put_all (drop (j + t.chosen) cs) (drop (i + t.running) rs)
