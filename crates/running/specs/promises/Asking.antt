-- What a study learns of the running units. Assumes nothing.
use Rattle.std.specs.Prelude.{ℕ, not, List}
use Rattle.outcome.specs.Day.{RunningUnit, runs}
use Rattle.base.specs.promises.Counting.{one}

-- how many units more run with one more
unfoldable pub newcomers : List RunningUnit → ℕ → ℕ
newcomers rs u = one (not (runs u rs))
