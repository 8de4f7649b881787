-- A schedule as an answer shows it. Assumes nothing.
use Rattle.choice.specs.Choosing.{shown}
use Rattle.choice.proofs.choosing.shown.Goals as goal

pub returns : goal.returns
unfolding shown
returns c =
    simp (
      c.cell.ensures,
      c.kind.ensures,
      c.is_some.ensures,
      c.cost.ensures,
    )
