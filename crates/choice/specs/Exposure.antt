-- Document 01, "Choice of schedule": "A unit is exposed when its verdict is F and it has a relevant row, or its verdict is U
-- and it has an eligible row." Assumes nothing.
use Rattle.std.specs.Prelude.{Bool, false}
use Rattle.pivotal.specs.Test.{Verdict, U, P, F}

-- whether a unit is exposed, by its verdict, whether it has a relevant row and whether it has an eligible row
unfoldable pub exposed : Verdict → Bool → Bool → Bool
exposed U relevant eligible = eligible
exposed P relevant eligible = false
exposed F relevant eligible = relevant
