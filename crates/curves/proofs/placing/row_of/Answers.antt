-- The row of a point, with one to try first. Assumes nothing.
use mathlib.Core.Path.{sym, ◌∙◌}
use Rattle.curves.proofs.placing.row_of.Goals as goal

pub returns-then-is_of : goal.returns-then-is_of
returns-then-is_of c = (rw c.in-Some.is at c.requires.tried_lt_n, sym c.is_of.ensures ∙ c.if-is_of.true)
