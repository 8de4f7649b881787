-- The suppliers put into rows, one row a turn. Assumes nothing.
use native.Mathlib.Omega.{arith}
use Rattle.decision.proofs.NamingLaws.{naming-over}
use Rattle.decision.proofs.naming.name_suppliers.Goals as goal

pub returns : goal.returns
returns c = naming-over _ _ _ _ _ c.loop-i.invariant (omega arith)
