-- Fields beside fields, one a turn. Assumes nothing.
use Rattle.tables.proofs.HeaderLaws.{Comparing}
use Rattle.tables.proofs.headers.compare_fields.Given as goal

abbrev pub invariant-loop : goal.invariant-loop
invariant-loop l = Comparing l.count l.s l.names l.rest l.left l.same l.counter
