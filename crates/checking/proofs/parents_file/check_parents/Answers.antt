-- No bytes, or what reading them gives. Assumes nothing.
use native.Mathlib.Omega.{arith}
use Rattle.tables.specs.declared.files.File.TheVariants.{Parents}
use Rattle.std.proofs.lemmas.Result.{err_from_is_err_and}
use Rattle.checking.proofs.FilesLaws.{some_bytes}
use Rattle.checking.proofs.ParentsLaws.{no-parents-passed, parents-unread, parents-cells, parents-passed}
use Rattle.checking.proofs.Rooms.{parents-room}
use Rattle.checking.proofs.parents_file.check_parents.Goals as goal

pub returns-then-parents-eq0 : goal.returns-then-parents-eq0
returns-then-parents-eq0 c = no-parents-passed _ (omega arith) _ _

pub read-requires : goal.read-requires
read-requires c = omega (arith, parents-room)

pub group_rows-requires : goal.group_rows-requires
group_rows-requires c = record { parent_cells = parents-cells _ _ _ _ (some_bytes Parents _ (omega arith)) c.read.ensures _ c.in_ok-count.was (omega (arith, parents-room)); supplier_cells = c.requires }

pub returns-in_err-count : goal.returns-in_err-count
returns-in_err-count c =
    let p = err_from_is_err_and c.from_residual.result c.from_residual.ensures.1 in
    rw (p.1, p.2) (parents-unread _ _ _ _ (some_bytes Parents _ (omega arith)) c.read.ensures _ _ c.in_err-count.was)

pub returns : goal.returns
returns c = parents-passed _ _ _ _ (some_bytes Parents _ (omega arith)) c.read.ensures _ c.in_ok-count.was _ _ _ _ c.group_rows.ensures
