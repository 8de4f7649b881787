-- By what was found. Assumes nothing.
use Rattle.capping.proofs.calls.number_of.Goals as goal

pub returns-in-Passes : goal.returns-in-Passes
returns-in-Passes c = rw c.in-Passes.is

pub returns-in-Fails : goal.returns-in-Fails
returns-in-Fails c = rw c.in-Fails.is
