-- The cells of the test before its first amount. Assumes nothing.
use mathlib.Core.Path.{◌∙◌, ap}
use Rattle.capping.specs.Fed.{fed_cells}
use Rattle.capping.proofs.feeding.capping_fed_begin.Goals as goal

pub returns : goal.returns
returns c = c.lay_test.ensures ∙ ap fed_cells c.begin.ensures
