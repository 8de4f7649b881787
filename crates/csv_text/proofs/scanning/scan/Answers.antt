-- The scan goes by the tally, one byte a turn. Assumes nothing.
use mathlib.Core.Path.{refl, ◌∙◌}
use native.Mathlib.Omega.{arith}
use borrow.Author.Rules.{rules}
use lib.ListN.{get_or}
use Rattle.csv_text.specs.promises.Scan.{tally_of, start}
use Rattle.csv_text.proofs.Scanned.{tally-scans}
use Rattle.csv_text.proofs.Tallies.{step-bounded, tally-next, tally-end}
use Rattle.csv_text.proofs.scanning.scan.Goals as goal

pub loop-b-init : goal.loop-b-init
unfolding tally_of start
loop-b-init c = (record { fields = search rules; records = search rules; fitting = search rules }, refl)

pub step-t-requires : goal.step-t-requires
unfolding tally_of
step-t-requires c = omega arith

pub loop-b-preserved : goal.loop-b-preserved
loop-b-preserved c =
    let s = c.args.s.now in
    let width = c.args.width in
    let i = c.loop-b.b-index in
    let t = tally_of c.loop-b.t in
    let inv = c.loop-b.invariant in (
      rw c.step-t.ensures (step-bounded width i (get_or s i 0) t inv.0),
      inv.1 ∙ tally-next width t s i (omega arith) ∙ rw c.step-t.ensures,
    )

pub finished-requires : goal.finished-requires
unfolding tally_of
finished-requires c = omega arith

pub returns : goal.returns
returns c =
    let s = c.args.s.now in
    let width = c.args.width in
    let loop = c.loop-b in
    c.finished.ensures ∙ rw (tally-scans width s, loop.invariant.1, tally-end width (tally_of loop.t) s loop.b-index (omega arith))
