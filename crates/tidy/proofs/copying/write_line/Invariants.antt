-- The bytes that are no quotes, stored one behind the other, as far as the first LF. Assumes nothing.
use Rattle.base.proofs.Together.{Writing}
use Rattle.tidy.specs.promises.Copying.{kept}
use Rattle.tidy.proofs.LineLaws.{Seeking}
use Rattle.tidy.proofs.copying.write_line.Given as goal

abbrev pub invariant-loop-i : goal.invariant-loop-i
invariant-loop-i l = Writing kept l.s l.initial.out l.i l.at l.out × Seeking l.s l.i
