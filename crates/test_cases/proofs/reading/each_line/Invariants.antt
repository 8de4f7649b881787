-- The lines, one a turn: what is left of the text gets shorter. Assumes nothing.
use Rattle.std.proofs.Common.{length}
use Rattle.test_cases.proofs.reading.each_line.Given as goal

abbrev pub decreases-loop-rest : goal.decreases-loop-rest
decreases-loop-rest g l = length l.rest
