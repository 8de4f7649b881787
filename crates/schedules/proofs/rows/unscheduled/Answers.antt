-- The lowest unit without a row. Assumes nothing.
use Rattle.std.proofs.Common.{ℕ, not, sym, ◌∙◌, rules, tests}
use Rattle.std.proofs.lemmas.Iterator.{YieldsList-from_slice}
use Rattle.std.proofs.lemmas.Iterator.Adapters.{option_map_id}
use Rattle.std.proofs.lemmas.Iterator.Consumers.{YieldsList-at, YieldsList-from_copied}
use Rattle.std.proofs.lemmas.Iterator.Search.{find_from_yields_List}
use Rattle.schedules.specs.Schedules.{unscheduled}
use Rattle.schedules.specs.promises.Answers.{has_row}
use Rattle.tables.specs.promises.FlatRows.{schedule_rows}
use Rattle.schedules.proofs.ScheduleLaws.{find-std}
use Rattle.schedules.proofs.rows.unscheduled.Goals as goal

pub returns : goal.returns
unfolding unscheduled
returns c =
    let a = c.args in
    let p = λ (u : ℕ). not (has_row u (schedule_rows a.n a.cells.now)) in
    sym (option_map_id c.find.result)
    ∙ find_from_yields_List p _ _ c.find.result c.find.ensures.ran
    (YieldsList-from_copied (YieldsList-at c.copied.ensures.source (YieldsList-from_slice a.units.now cc)))
    (λ x b q k. search (rules, tests))
    ∙ find-std p a.units.now
