-- The cells of a unit that runs, or zeros. Assumes nothing.
use Rattle.capping.proofs.days.place_of.Goals as goal

pub returns-then-runs : goal.returns-then-runs
returns-then-runs c = rw (c.if-runs.true, c.letter_of.ensures)

pub returns-else-runs : goal.returns-else-runs
returns-else-runs c = rw c.if-runs.false
