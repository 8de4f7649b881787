-- The tally at a record's end. Assumes nothing.
use native.Mathlib.Omega.{arith}
use mathlib.Core.Bool.{◌&&◌}
use lib.Dec.{eqb}
use Rattle.base.proofs.Searches.{one-le}
use Rattle.csv_text.specs.promises.Scan.{tally_of, over}
use Rattle.csv_text.proofs.scanning.over.Goals as goal

pub overflow_add-result-2 : goal.overflow_add-result-2
overflow_add-result-2 c = omega (arith, c.fits.ensures, one-le (eqb c.args.t.fitting c.args.t.records && eqb c.args.width c.args.t.fields))

pub returns : goal.returns
unfolding over tally_of
returns c = rw c.fits.ensures
