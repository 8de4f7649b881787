-- The digits, one a turn. Assumes nothing.
use Rattle.onepass.proofs.FieldLaws.{Running}
use Rattle.onepass.proofs.fields.digits.Given as goal

abbrev pub invariant-loop-i : goal.invariant-loop-i
invariant-loop-i l = Running l.s l.at l.i l.n
