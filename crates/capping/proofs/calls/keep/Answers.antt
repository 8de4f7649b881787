-- By the number that is told. Assumes nothing.
use native.Mathlib.Omega.{arith}
use Rattle.capping.proofs.ExportLaws.{kept-accepted, kept-refused}
use mathlib.Core.Path.{sym, ◌∙◌}
use Rattle.capping.proofs.calls.keep.Goals as goal

pub returns-then-told-eq0 : goal.returns-then-told-eq0
returns-then-told-eq0 c = c.lay_down.ensures ∙ sym (kept-accepted _ _ _ (omega arith))

pub returns-else-told-eq0 : goal.returns-else-told-eq0
returns-else-told-eq0 c = sym (kept-refused _ _ _ (λ e. omega (arith, e)))
