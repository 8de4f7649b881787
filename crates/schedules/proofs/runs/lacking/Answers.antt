-- The lowest unit with a schedule that lacks an hour. Assumes nothing.
use Rattle.std.proofs.Common.{ℕ, sym, ◌∙◌, rules, tests}
use Rattle.std.proofs.lemmas.Iterator.{YieldsList-from_slice}
use Rattle.std.proofs.lemmas.Iterator.Adapters.{option_map_id}
use Rattle.std.proofs.lemmas.Iterator.Consumers.{YieldsList-at, YieldsList-from_copied}
use Rattle.std.proofs.lemmas.Iterator.Search.{find_from_yields_List}
use Rattle.schedules.specs.Runs.{lacking}
use Rattle.schedules.specs.Schedules.{own}
use Rattle.schedules.specs.promises.Steps.{lacks}
use Rattle.tables.specs.promises.FlatRows.{schedule_rows}
use Rattle.schedules.proofs.ScheduleLaws.{find-std}
use Rattle.schedules.proofs.runs.lacking.Goals as goal

pub returns : goal.returns
unfolding lacking
returns c =
    let a = c.args in
    let p = λ (u : ℕ). lacks a.hour (own u (schedule_rows a.n a.cells.now)) in
    sym (option_map_id c.find.result)
    ∙ find_from_yields_List p _ _ c.find.result c.find.ensures.ran
    (YieldsList-from_copied (YieldsList-at c.copied.ensures.source (YieldsList-from_slice a.units.now cc)))
    (λ x b q k. search (rules, tests))
    ∙ find-std p a.units.now
