-- The amounts, one party a turn. Assumes nothing.
use Rattle.market.specs.Parties.{amount_of}
use Rattle.cells.specs.promises.Views.{supply_at}
use Rattle.tables.specs.promises.FlatRows.{supply_rows}
use Rattle.market.proofs.ListingLaws.{Filling}
use Rattle.market.proofs.parties.add_amounts.Given as goal

abbrev pub invariant-loop-i : goal.invariant-loop-i
invariant-loop-i l =
    Filling (amount_of l.cutoff (supply_at l.cells l.clearing) (supply_rows l.n l.cells)) l.parties l.initial.out l.out l.i
