-- Read alone, then copied. Assumes nothing.
use Rattle.std.proofs.lemmas.Result.{err_from_is_err_and}
use Rattle.tidy.proofs.FileLaws.{constraint-refused, constraint-copied}
use Rattle.tidy.proofs.files.tidy_constraint.Goals as goal

pub returns-in_err-read_constraint : goal.returns-in_err-read_constraint
returns-in_err-read_constraint c =
    let p = err_from_is_err_and c.from_residual.result c.from_residual.ensures.1 in
    rw (p.1, p.2) (constraint-refused _ _ c.read_constraint.ensures c.in_err-read_constraint.was)

pub returns : goal.returns
returns c =
    constraint-copied _ _ c.read_constraint.ensures
    c.in_ok-read_constraint.was
    c.copy_file.ensures
