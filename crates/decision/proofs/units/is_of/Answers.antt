-- Whether a row is the unit's. Assumes nothing.
use Rattle.decision.proofs.UnitLaws.{of-unit}
use Rattle.decision.proofs.units.is_of.Goals as goal

pub returns : goal.returns
returns c = of-unit c.args.cells.now c.args.row _
