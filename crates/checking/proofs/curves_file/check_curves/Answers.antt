-- What reading curves gives. Assumes nothing.
use native.Mathlib.Omega.{arith}
use Rattle.tables.specs.declared.files.File.TheVariants.{Curves}
use Rattle.std.proofs.lemmas.Result.{err_from_is_err_and}
use Rattle.checking.proofs.CurvesLaws.{curves-unread, curves-cells, curves-passed}
use Rattle.checking.proofs.FilesLaws.{some_bytes}
use Rattle.checking.proofs.Rooms.{curves-room}
use Rattle.checking.proofs.curves_file.check_curves.Goals as goal

pub read-requires : goal.read-requires
read-requires c = omega (arith, curves-room)

pub hold_points-requires : goal.hold_points-requires
hold_points-requires c =
    let pre = c.requires in
    record { point_cells = curves-cells _ _ _ _ (some_bytes Curves _ pre.fact) c.read.ensures _ c.in_ok-count.was (omega (arith, curves-room)); row_cells = pre.row_cells }

pub returns-in_err-count : goal.returns-in_err-count
returns-in_err-count c =
    let p = err_from_is_err_and c.from_residual.result c.from_residual.ensures.1 in
    rw (p.1, p.2) (curves-unread _ _ _ _ (some_bytes Curves _ c.requires.fact) c.read.ensures _ _ c.in_err-count.was)

pub returns : goal.returns
returns c = curves-passed _ _ _ _ (some_bytes Curves _ c.requires.fact) c.read.ensures _ c.in_ok-count.was _ _ _ _ c.hold_points.ensures
