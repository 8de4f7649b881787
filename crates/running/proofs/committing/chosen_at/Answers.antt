-- What a row has running, by its cells. Assumes nothing.
use Rattle.outcome.specs.Study.{chosen}
use Rattle.running.proofs.committing.chosen_at.Goals as goal

pub returns : goal.returns
unfolding chosen
returns c = rw (c.cell.ensures, c.cell-2.ensures, c.kind_of.ensures, c.cell-3.ensures)
