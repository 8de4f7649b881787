-- A well-formed day first. Assumes nothing.
use mathlib.Core.Path.{sym, ◌∙◌}
use Rattle.engine.proofs.DecidingLaws.{ill-formed}
use Rattle.engine.proofs.day.Day.decide.Goals as goal

pub decide_files-requires : goal.decide_files-requires
decide_files-requires c = record { self_value = sym c.is_formed.ensures ∙ c.if-is_formed.true; answer_width_in_bounds = c.requires }

pub returns-else-is_formed : goal.returns-else-is_formed
returns-else-is_formed c = ill-formed _ _ _ _ (sym c.is_formed.ensures ∙ c.if-is_formed.false) c.refused_by_state.ensures
