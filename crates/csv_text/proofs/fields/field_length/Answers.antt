-- A field's length, one byte a turn. Assumes nothing.
use mathlib.Core.Bool.{true, false}
use mathlib.Core.Path.{◌≡◌, sym, ◌∙◌}
use native.Mathlib.Omega.{arith}
use lib.ListN.{get_or}
use Rattle.csv_text.specs.promises.Fields.{ends_field}
use Rattle.csv_text.proofs.Parts.{extent-here, extent-later, extent-end}
use Rattle.csv_text.proofs.fields.field_length.Goals as goal

pub returns-then-separates-clause-value : goal.returns-then-separates-clause-value
returns-then-separates-clause-value c =
    let s = c.args.s.now in
    let loop = c.loop-i in
    let e : ends_field loop.inside (get_or s loop.i 0) ≡ true = sym c.separates.ensures ∙ c.if-separates.true in
    omega (arith, extent-here loop.inside s loop.i (omega arith) e)

pub loop-i-preserved : goal.loop-i-preserved
loop-i-preserved c =
    let s = c.args.s.now in
    let loop = c.loop-i in
    let e : ends_field loop.inside (get_or s loop.i 0) ≡ false = sym c.separates.ensures ∙ c.if-separates.false in
    let later = extent-later loop.inside s loop.i (omega arith) e in
    rw c.turned-inside.ensures (omega (arith, later))

pub returns-clause-value : goal.returns-clause-value
returns-clause-value c =
    let loop = c.loop-i in
    omega (arith, extent-end loop.inside c.args.s.now loop.i (omega arith))
