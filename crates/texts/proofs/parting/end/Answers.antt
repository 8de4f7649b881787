-- A search of the whole text. Assumes nothing.
use Rattle.std.proofs.Common.{◌≡◌, length, arith}
use borrow.Author.Tests.{eq-eqb, ne_eqb}
use Rattle.texts.proofs.PartingLaws.{before-here, before-on, before-end}
use Rattle.texts.proofs.parting.end.Goals as goal

pub returns-then-b-stop-clause-value : goal.returns-then-b-stop-clause-value
returns-then-b-stop-clause-value c =
    omega (arith, c.loop-i.invariant, before-here c.args.stop c.args.text.now c.loop-i.i c.loop-i-test.true (eq-eqb _ _ c.if-b-stop.true))

pub loop-i-preserved : goal.loop-i-preserved
loop-i-preserved c =
    omega (arith, c.loop-i.invariant, before-on c.args.stop c.args.text.now c.loop-i.i c.loop-i-test.true (ne_eqb _ _ c.if-b-stop.false))

pub returns-clause-value : goal.returns-clause-value
returns-clause-value c =
    let all : c.loop-i.i ≡ length c.args.text.now = omega arith in
    omega (arith, rw all at c.loop-i.invariant, before-end c.args.stop c.args.text.now)
