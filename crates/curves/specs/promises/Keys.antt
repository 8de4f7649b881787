-- Keys by which schedule rows are linked for points. A unit of supply has its place there as its number, so no two of its schedules
-- share a key, whatever the units are. Assumes nothing.
use Rattle.std.specs.Prelude.{ℕ, zero, suc, ◌+◌, ◌*◌, ◌%◌, List, get_or, set}

-- the places of units in a run of their numbers
abbrev pub unit_places : ℕ
unit_places = 10240

-- the run where the first i units have come
unfoldable pub numbered : List ℕ → ℕ → List ℕ → List ℕ
numbered us zero numbers = numbers
numbered us (suc i) numbers = set (numbered us i numbers) (get_or us i 0 % unit_places) (i % 64)

-- a schedule's key, of so many, and that of a schedule row
abbrev pub own_keys : ℕ
own_keys = 8192

abbrev pub own_key : List ℕ → ℕ → ℕ → ℕ
own_key numbers unit schedule = get_or numbers (unit % unit_places) 0 % 64 * 128 + schedule % 128

abbrev pub row_key : List ℕ → List ℕ → ℕ → ℕ
row_key numbers cells k = own_key numbers (get_or cells (k * 9 + 0) 0) (get_or cells (k * 9 + 1) 0)
