-- Document 01, "Files": "With study hour h, a schedule's run is the hours from h to the lesser of h + minrun - 1 and 23".
-- Assumes nothing.
use Rattle.std.specs.Prelude.{ℕ, ◌+◌, ◌-◌, min, Bool, ◌&&◌, leb}

-- the last hour of the day
abbrev pub last_hour : ℕ
last_hour = 23

-- the last hour of a run
unfoldable pub run_end : ℕ → ℕ → ℕ
run_end h minrun = min (h + minrun - 1) last_hour

-- whether an hour is in the run
unfoldable pub in_run : ℕ → ℕ → ℕ → Bool
in_run h minrun k = leb h k && leb k (run_end h minrun)
