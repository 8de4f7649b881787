-- Hour and units, by their cells. Assumes nothing.
use Rattle.engine.specs.View.{view_of}
use Rattle.capping.specs.Days.{day_in}
use Rattle.capping.proofs.days.day_in.Goals as goal

pub returns : goal.returns
unfolding view_of day_in
returns c = rw (c.hour_in-hour.ensures, c.units_in-units.ensures)
