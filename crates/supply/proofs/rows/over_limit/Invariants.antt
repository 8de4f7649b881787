-- Units and suppliers counted, one row a turn. Assumes nothing.
use Rattle.supply.proofs.SupplyLaws.{Counting}
use Rattle.supply.proofs.rows.over_limit.Given as goal

abbrev pub invariant-loop-k : goal.invariant-loop-k
invariant-loop-k l =
    Counting l.cells l.n l.initial.units l.initial.suppliers l.units l.suppliers l.unit_count l.supplier_count l.k
