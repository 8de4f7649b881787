-- Two rows, by the three tests. Assumes nothing.
use native.Mathlib.Omega.{arith}
use Rattle.cells.specs.promises.Views.{supply_at}
use Rattle.supply.proofs.SupplyLaws.{odds-unit, odds-supplier, odds-dfax}
use Rattle.supply.proofs.rows.at_odds.Goals as goal

pub returns-then-cells-a : goal.returns-then-cells-a
returns-then-cells-a c =
    let a = c.args in
    odds-unit (supply_at a.cells.now a.late) (supply_at a.cells.now a.early) (omega arith)

pub returns-then-cells-a-2 : goal.returns-then-cells-a-2
returns-then-cells-a-2 c =
    let a = c.args in
    odds-supplier (supply_at a.cells.now a.late) (supply_at a.cells.now a.early) (omega arith) (omega arith)

pub returns : goal.returns
returns c =
    let a = c.args in
    odds-dfax (supply_at a.cells.now a.late) (supply_at a.cells.now a.early) (omega arith) (omega arith)
