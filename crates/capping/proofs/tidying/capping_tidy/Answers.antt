-- A file tidied by its number, told by its numbers. Assumes nothing.
use native.Mathlib.Omega.{arith}
use Rattle.capping.proofs.TidyLaws.{tidy-told}
use Rattle.capping.proofs.tidying.capping_tidy.Goals as goal

pub returns : goal.returns
returns c =
    tidy-told c.tidy_numbered-tidied.ensures c.told_by.ensures c.report_on.ensures (omega (arith, c.count_of.ensures))
