-- `numeral::zero_leads` meets its contract. Assumes nothing.
use native.Mathlib.Omega.{arith}
use Rattle.numeral.proofs.Steps.{leads-short, leads-long}
use Rattle.numeral.proofs.zero_leads.Goals as goal

pub returns-then-s-lt2 : goal.returns-then-s-lt2
returns-then-s-lt2 c = leads-short c.args.s.now (omega arith)

pub bounds-s-0 : goal.bounds-s-0
bounds-s-0 c = omega arith

pub returns : goal.returns
returns c = leads-long c.args.s.now (omega arith)
