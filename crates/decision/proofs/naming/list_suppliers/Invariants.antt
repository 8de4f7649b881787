-- The suppliers, one unit a turn. Assumes nothing.
use Rattle.tables.specs.promises.FlatRows.{supply_rows}
use Rattle.market.proofs.ListingLaws.{Filling}
use Rattle.decision.specs.promises.Naming.{supplier_of}
use Rattle.decision.proofs.naming.list_suppliers.Given as goal

abbrev pub invariant-loop-i : goal.invariant-loop-i
invariant-loop-i l = Filling (supplier_of (supply_rows l.n l.supply)) l.units l.initial.suppliers l.suppliers l.i
