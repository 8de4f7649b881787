-- By what a preview answered. Assumes nothing.
use Rattle.capping.proofs.previewing.show.Goals as goal

pub returns-in-Ok : goal.returns-in-Ok
returns-in-Ok c = rw c.in-Ok.is
