-- A row's kind by its letter. Assumes nothing.
use Rattle.choice.proofs.rows.kind.Goals as goal

pub returns : goal.returns
returns c = simp (c.kind_of.ensures, c.cell.ensures)
