-- |dfax| of a row. Assumes nothing.
use native.Mathlib.Omega.{arith}
use Rattle.offers.proofs.CellLaws.{dfax-below, dfax-above}
use Rattle.offers.proofs.rows.abs_dfax.Goals as goal

pub returns-then-dfax-lt-NO_DFAX : goal.returns-then-dfax-lt-NO_DFAX
returns-then-dfax-lt-NO_DFAX c = omega (arith, dfax-below c.args.cells.now c.args.row (omega arith))

pub returns : goal.returns
returns c = omega (arith, dfax-above c.args.cells.now c.args.row (omega arith))
