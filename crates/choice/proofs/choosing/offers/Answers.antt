-- Whether a row is the unit's, for the hour and of some kinds. Assumes nothing.
use mathlib.Core.Path.{◌∙◌}
use native.Mathlib.Omega.{arith}
use Rattle.choice.proofs.ChoiceLaws.{offers-unit, offers-hour, offers-kinds}
use Rattle.choice.proofs.choosing.offers.Goals as goal

pub returns-then-cell-unit : goal.returns-then-cell-unit
returns-then-cell-unit c = offers-unit _ _ _ _ (omega arith)

pub returns-then-cell-hour : goal.returns-then-cell-hour
returns-then-cell-hour c = offers-hour _ _ _ _ (omega arith) (omega arith)

pub returns : goal.returns
returns c = c.admits.ensures ∙ rw c.kind.ensures (offers-kinds _ _ _ _ (omega arith) (omega arith))
