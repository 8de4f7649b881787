-- The tests, one unit a turn. Assumes nothing.
use mathlib.Core.Path.{◌≡◌}
use lib.ListN.{length}
use Rattle.supply.specs.Supply.{most_units}
use Rattle.market.proofs.ListingLaws.{Filling}
use Rattle.decision.specs.promises.Testing.{unit_test}
use Rattle.tables.specs.promises.FlatRows.{supply_rows}
use Rattle.decision.proofs.testing.test_each.Given as goal

abbrev pub invariant-loop-i : goal.invariant-loop-i
invariant-loop-i l = (length l.initial.tests ≡ most_units) × Filling (unit_test l.constraint (supply_rows l.n l.cells)) l.units l.initial.tests l.tests l.i
