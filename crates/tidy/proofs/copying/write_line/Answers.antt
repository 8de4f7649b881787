-- The bytes that are no quotes, stored one behind the other, as far as the first LF. Assumes nothing.
use Rattle.tidy.proofs.copying.write_line.Goals.{then-b-ne-DQUOTE, else-b-ne-DQUOTE}
use mathlib.Core.Path.{◌≡◌}
use native.Mathlib.Omega.{arith}
use lib.ListN.{length}
use Rattle.base.proofs.Together.{writing-none}
use Rattle.tidy.specs.promises.Copying.{kept}
use Rattle.tidy.proofs.LineLaws.{seeking-none, seeking-found, seeking-next, seeking-over, line-written}
use Rattle.tidy.proofs.LoopLaws.{byte-room, byte-written, quote-passed}
use Rattle.tidy.proofs.copying.write_line.Goals as goal

pub loop-i-init : goal.loop-i-init
loop-i-init c = (writing-none kept _ _, seeking-none _)

pub bounds-out-at : goal.bounds-out-at
bounds-out-at c = byte-room _ _ c.requires c.loop-i-test.true c.if-b-ne-DQUOTE.true c.loop-i.invariant.0

pub returns-then-b-eq-LF : goal.returns-then-b-eq-LF
returns-then-b-eq-LF c =
    line-written
    (elim c.if-b-ne-DQUOTE.branch [
      | then-b-ne-DQUOTE w ↦ rw (w.out-is, w.at-is) (byte-written _ _ c.requires c.loop-i-test.true w.if-b-ne-DQUOTE.true c.loop-i.invariant.0)
      | else-b-ne-DQUOTE w ↦ rw (w.out-is, w.at-is) (quote-passed _ _ c.requires c.loop-i-test.true w.if-b-ne-DQUOTE.false c.loop-i.invariant.0)
    ])
    (seeking-found c.loop-i.invariant.1 c.loop-i-test.true c.if-b-eq-LF.true)

pub loop-i-preserved : goal.loop-i-preserved
loop-i-preserved c = (
  elim c.if-b-ne-DQUOTE.branch [
    | then-b-ne-DQUOTE w ↦ rw (w.out-is, w.at-is) (byte-written _ _ c.requires c.loop-i-test.true w.if-b-ne-DQUOTE.true c.loop-i.invariant.0)
    | else-b-ne-DQUOTE w ↦ rw (w.out-is, w.at-is) (quote-passed _ _ c.requires c.loop-i-test.true w.if-b-ne-DQUOTE.false c.loop-i.invariant.0)
  ],
  seeking-next c.loop-i.invariant.1 c.loop-i-test.true c.if-b-eq-LF.false,
)

pub returns : goal.returns
returns c =
    let all : c.loop-i.i ≡ length c.args.s.now = omega arith in
    rw (← all) (line-written c.loop-i.invariant.0 (seeking-over c.loop-i.invariant.1 c.loop-i-test.false))
