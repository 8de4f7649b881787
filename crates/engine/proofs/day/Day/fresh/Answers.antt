-- A fresh day. Assumes nothing.
use mathlib.Core.Path.{refl}
use Rattle.outcome.specs.Day.{fresh_day}
use Rattle.engine.specs.View.{view_of}
use Rattle.engine.proofs.day.Day.fresh.Goals as goal

pub returns : goal.returns
unfolding view_of fresh_day
returns c = record { result_value = rw c.none.ensures.result_value; most = refl }
