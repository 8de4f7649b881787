-- Whether a point ends its curve below ecomin. Assumes nothing.
use native.Mathlib.Omega.{arith}
use Rattle.cells.specs.promises.Views.{schedule_at, point_at}
use Rattle.curves.proofs.EndLaws.{low-not, low_end}
use Rattle.curves.proofs.ending.is_low_end.Goals as goal

pub returns-then-last-i : goal.returns-then-last-i
returns-then-last-i c = let a = c.args in low-not a.last a.i _ (omega arith)

pub returns : goal.returns
returns c = let a = c.args in low_end a.last a.i c.cell.result c.cell-2.result (point_at a.points.now a.i).mw (schedule_at a.cells.now a.k).ecomin (omega arith) (omega arith) (omega arith)
