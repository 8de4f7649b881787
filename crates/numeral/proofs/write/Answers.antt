-- `numeral::write` meets its contract. The loop's invariant: `at` is how many digits are still to be written, the digits
-- of `rest`; in front of what stands from `at` on they make the whole numeral, in front of the buffer's old rest.
-- What is to be written falls. Assumes nothing.
use Prim.Native.Nat.{◌-◌, ◌/◌}
use mathlib.Core.Path.{refl}
use native.Mathlib.Omega.{arith}
use lib.ListN.{length-set}
use Rattle.numeral.proofs.Laws.{length-at-least}
use Rattle.numeral.proofs.Writing.{length-one, length_more}
use Rattle.numeral.proofs.Steps.{written-digit, written-first}
use Rattle.numeral.proofs.write.Goals as goal

pub digit_count-count-requires : goal.digit_count-count-requires
digit_count-count-requires c = omega arith

pub loop-rest-init : goal.loop-rest-init
loop-rest-init c = (c.digit_count-count.ensures, omega arith, refl, refl)

pub overflow_sub-at : goal.overflow_sub-at
overflow_sub-at c = omega (arith, length-at-least c.loop-rest.rest)

pub overflow_cast-out : goal.overflow_cast-out
overflow_cast-out c = omega arith

pub overflow_add-out : goal.overflow_add-out
overflow_add-out c = omega arith

pub bounds-out-at : goal.bounds-out-at
bounds-out-at c = omega (arith, length-at-least c.loop-rest.rest)

pub loop-rest-smaller : goal.loop-rest-smaller
loop-rest-smaller c = omega arith

pub loop-rest-preserved : goal.loop-rest-preserved
loop-rest-preserved c =
    let l = c.loop-rest in
    let more = length_more l.rest (omega arith) in
    let some = length-at-least (l.rest / 10) in
    let text = l.invariant.3 in (
      omega arith,
      simp length-set (omega arith),
      simp length-set (omega arith),
      written-digit l.out _ (l.at - 1) l.at l.rest _ _ (omega arith) (omega arith) (omega arith)
          (omega arith) (omega arith) text,
    )

pub overflow_cast-out-2 : goal.overflow_cast-out-2
overflow_cast-out-2 c = omega arith

pub overflow_add-out-2 : goal.overflow_add-out-2
overflow_add-out-2 c = omega arith

pub bounds-out-0 : goal.bounds-out-0
bounds-out-0 c = omega (arith, length-at-least c.loop-rest.rest)

pub shape_of-out : goal.shape_of-out
shape_of-out c = simp length-set (omega arith)

pub returns : goal.returns
returns c =
    let a = c.args in
    let counted = c.digit_count-count in
    let l = c.loop-rest in
    let one = length-one l.rest (omega arith) in
    written-first l.out a.out.now l.at l.rest a.n counted.result (omega arith) (omega arith)
    (omega arith) counted.ensures l.invariant.3
