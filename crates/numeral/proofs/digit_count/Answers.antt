-- `numeral::digit_count` meets its contract. The loop's invariant: the digits counted and those of what is left are one
-- more than the numeral has, since the count starts at 1. What is left falls. Assumes nothing.
use native.Mathlib.Omega.{arith}
use Rattle.numeral.proofs.Laws.{length-at-least, length-u64}
use Rattle.numeral.proofs.Writing.{length-one, length_more}
use Rattle.numeral.proofs.digit_count.Goals as goal

pub loop-left-init : goal.loop-left-init
loop-left-init c = omega arith

pub overflow_add-count : goal.overflow_add-count
overflow_add-count c =
    let n = c.args.n in
    omega (arith, length-u64 n (omega arith), length-at-least c.loop-left.left)

pub loop-left-smaller : goal.loop-left-smaller
loop-left-smaller c = omega arith

pub loop-left-preserved : goal.loop-left-preserved
loop-left-preserved c = omega (arith, length_more c.loop-left.left (omega arith))

pub returns : goal.returns
returns c = omega (arith, length-one c.loop-left.left (omega arith))
