-- The scan goes by the tally, one byte a turn. Assumes nothing.
use mathlib.Core.Path.{◌≡◌}
use lib.ListN.{drop}
use Rattle.csv_text.specs.promises.Scan.{tally_of, start, tally}
use Rattle.csv_text.proofs.Tallies.{Bounded}
use Rattle.csv_text.proofs.scanning.scan.Given as goal

abbrev pub invariant-loop-b : goal.invariant-loop-b
invariant-loop-b l =
    Bounded l.b-index (tally_of l.t) × (tally l.width start l.s ≡ tally l.width (tally_of l.t) (drop l.b-index l.s))
