-- The first cells, then the places. Assumes nothing.
use Rattle.capping.proofs.LayingLaws.{laid-down}
use borrow.Author.Rules.{rules}
use Rattle.capping.proofs.days.lay_down.Goals as goal

pub returns : goal.returns
returns c = let args = c.args in
    laid-down args.day args.cells.now _ (search rules) c.has_hour.ensures c.hour_or_zero.ensures c.lay_units.ensures
