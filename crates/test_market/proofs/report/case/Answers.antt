-- One case: the run of cells has room for any supply, and the rows read are within their ranges. Assumes nothing.
use native.Mathlib.Omega.{arith}
use Rattle.test_market.proofs.ReadCells.{relief-permitted, room-enough, read-cells}
use Rattle.test_market.proofs.report.case.Goals as goal

pub need_of-need-requires : goal.need_of-need-requires
need_of-need-requires g c = relief-permitted _ (omega arith)

pub read-reading-requires : goal.read-reading-requires
read-reading-requires g c = room-enough _ (omega arith)

pub print_market-requires : goal.print_market-requires
print_market-requires g c = read-cells _ _ _ _ _ c.read-reading.ensures c.in-Ok.is (omega arith)
