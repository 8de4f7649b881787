-- One case: the run of cells has room for any schedules, and the rows read are within their ranges. Assumes nothing.
use native.Mathlib.Omega.{arith}
use Rattle.test_choice.proofs.ReadRows.{room-enough, read-rows}
use Rattle.test_choice.proofs.report.case.Goals as goal

pub read-reading-requires : goal.read-reading-requires
read-reading-requires g c = room-enough _ (omega arith)

pub choose-requires : goal.choose-requires
choose-requires g c = read-rows _ _ _ _ _ c.read-reading.ensures c.in-Ok.is (omega arith)
