-- The pass, and the exact reading where it gives up. Assumes nothing.
use Rattle.onepass.proofs.FileLaws.{laid-again}
use Rattle.onepass.proofs.whole.read.Goals as goal

pub returns-in-Some : goal.returns-in-Some
returns-in-Some c = laid-again _ _ _ _ _ c.in-Some.ensures

pub returns-in-None : goal.returns-in-None
returns-in-None c = laid-again _ _ _ _ _ c.read.ensures
