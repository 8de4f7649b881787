-- `numeral::read` meets its contract. The loop's invariant: the text's number is the number that the bytes that are
-- left make behind `n`, and `n` is not above the maximum. Assumes nothing.
use native.Mathlib.Omega.{arith}
use Rattle.numeral.proofs.Steps.{refused-empty, refused-leading, refused-other, refused-above, refused-below, read-start, read-digit, answered}
use Rattle.numeral.proofs.read.Goals as goal

pub returns-then-s-eq0 : goal.returns-then-s-eq0
returns-then-s-eq0 c =
    let a = c.args in
    refused-empty a.least a.most a.s.now (omega arith)

pub returns-then-zero_leads : goal.returns-then-zero_leads
returns-then-zero_leads c =
    let a = c.args in
    refused-leading a.least a.most a.s.now (cc)

pub loop-b-init : goal.loop-b-init
loop-b-init c =
    let s = c.args.s.now in
    (omega arith, read-start s (omega arith) (cc))

pub returns-then-b-lt-ZERO : goal.returns-then-b-lt-ZERO
returns-then-b-lt-ZERO c =
    let a = c.args in
    let l = c.loop-b in
    refused-other a.least a.most a.s.now l.b-index l.n l.invariant.1 (omega arith) (omega arith)

pub returns-then-b-gt-NINE : goal.returns-then-b-gt-NINE
returns-then-b-gt-NINE c =
    let a = c.args in
    let l = c.loop-b in
    refused-other a.least a.most a.s.now l.b-index l.n l.invariant.1 (omega arith) (omega arith)

pub returns-then-tenth-n : goal.returns-then-tenth-n
returns-then-tenth-n c =
    let a = c.args in
    let l = c.loop-b in
    refused-above a.least a.most a.s.now l.b-index l.n l.invariant.1 (omega arith) (omega arith)

pub returns-then-most-n : goal.returns-then-most-n
returns-then-most-n c =
    let a = c.args in
    let l = c.loop-b in
    refused-above a.least a.most a.s.now l.b-index l.n l.invariant.1 (omega arith) (omega arith)

pub loop-b-preserved : goal.loop-b-preserved
loop-b-preserved c =
    let a = c.args in
    let l = c.loop-b in
    (omega arith, read-digit a.s.now l.b-index l.n l.invariant.1 (omega arith) (omega arith))

pub returns-then-n-least : goal.returns-then-n-least
returns-then-n-least c =
    let a = c.args in
    let l = c.loop-b in
    refused-below a.least a.most a.s.now l.b-index l.n l.invariant.1 (omega arith) (omega arith)

pub returns : goal.returns
returns c =
    let a = c.args in
    let l = c.loop-b in
    answered a.least a.most a.s.now l.b-index l.n l.invariant.1 (omega arith) (omega arith) (omega arith)
