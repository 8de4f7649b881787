-- A line a turn, each into the rest of the buffer. Assumes nothing.
use lib.ListN.{length}
use Rattle.tidy.proofs.LineLaws.{Lines}
use Rattle.tidy.proofs.copying.write_lines.Given as goal

abbrev pub invariant-loop-rest : goal.invariant-loop-rest
invariant-loop-rest l = Lines l.s l.initial.out l.rest l.at l.out

abbrev pub decreases-loop-rest : goal.decreases-loop-rest
decreases-loop-rest l = length l.rest
