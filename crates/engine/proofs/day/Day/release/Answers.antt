-- A release: refused with 24, then with 23, else done. Assumes nothing.
use mathlib.Core.Path.{sym, ◌∙◌}
use native.Mathlib.Omega.{arith}
use Rattle.running.proofs.AskingLaws.{within}
use Rattle.engine.proofs.FormingLaws.{few-units}
use Rattle.engine.proofs.ReleaseLaws.{releases, refuses-23, refuses-24}
use Rattle.engine.proofs.day.Day.release.Goals as goal

pub place_of-requires : goal.place_of-requires
place_of-requires c = few-units _ (sym c.is_formed.ensures ∙ c.if-is_formed.true)

pub without_place-requires : goal.without_place-requires
without_place-requires c =
    record { count_le_most_running = few-units _ (sym c.is_formed.ensures ∙ c.if-is_formed.true); at_lt_count = within _ _ c.place_of.ensures c.in-Some.is }

pub returns-in-Some : goal.returns-in-Some
returns-in-Some c =
    releases _ _ _ _ (sym c.is_formed.ensures ∙ c.if-is_formed.true) c.place_of.ensures c.in-Some.is c.without_place.ensures

pub returns-in-None : goal.returns-in-None
returns-in-None c =
    refuses-23 _ _ _ (sym c.is_formed.ensures ∙ c.if-is_formed.true) c.place_of.ensures c.in-None.is c.refused.ensures

pub returns-else-is_formed : goal.returns-else-is_formed
returns-else-is_formed c =
    refuses-24 _ _ _ (sym c.is_formed.ensures ∙ c.if-is_formed.false) c.refused-else-is_formed.ensures
