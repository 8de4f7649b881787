-- Whether a unit that runs on cost has no C schedule. Assumes nothing.
use mathlib.Core.Path.{refl, ◌∙◌, ap}
use Rattle.std.specs.Prelude.{Some}
use Rattle.decision.proofs.ChoosingLaws.{lacks-none, lacks-on-cost}
use Rattle.decision.proofs.choosing.lacks_cost.Goals as goal

pub returns-in-None : goal.returns-in-None
returns-in-None c = lacks-none _ _ _ _ c.in-None.is refl

pub returns-in-M : goal.returns-in-M
returns-in-M c = lacks-none _ _ _ _ (c.in-Some.is ∙ ap Some c.in-M.is) refl

pub returns-in-C : goal.returns-in-C
returns-in-C c = lacks-on-cost _ _ _ (c.in-Some.is ∙ ap Some c.in-C.is) c.has_any.ensures
