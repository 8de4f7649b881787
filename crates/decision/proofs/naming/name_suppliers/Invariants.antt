-- The suppliers put into rows, one row a turn. Assumes nothing.
use Rattle.decision.proofs.NamingLaws.{Naming}
use Rattle.decision.proofs.naming.name_suppliers.Given as goal

abbrev pub invariant-loop-i : goal.invariant-loop-i
invariant-loop-i l = Naming l.suppliers l.k l.initial.rows l.rows l.i
