-- A row linked in both parts of a run. Assumes nothing.
use mathlib.Core.Path.{◌∙◌}
use native.Mathlib.Omega.{arith}
use Rattle.links.proofs.LinkLaws.{parts-linked}
use Rattle.links.proofs.link_row.Goals as goal

pub returns : goal.returns
returns c = let a = c.args in parts-linked 2048 a.links.now _ _ _ _ _ (omega arith) (c.link.ensures ∙ rw c.unit_key.ensures.0) (c.link-2.ensures ∙ rw c.schedule_key.ensures.0)
