-- Nothing, or a CR LF. Assumes nothing.
use mathlib.Core.Path.{refl, sym, ◌∙◌, ap}
use Prim.Native.Nat.{◌≤◌}
use native.Mathlib.Omega.{arith}
use Rattle.csv_text.specs.Bytes.{CR}
use lib.ListN.{length, length-set}
use Rattle.base.proofs.Writers.{wrote_none}
use Rattle.tidy.proofs.CopyLaws.{has_end, lacks-end, end-put}
use Rattle.tidy.proofs.copying.write_last_end.Goals as goal

pub returns-then-ends_in_line_end : goal.returns-then-ends_in_line_end
returns-then-ends_in_line_end c = rw (has_end c.args.s.now (sym c.ends_in_line_end.ensures ∙ c.if-ends_in_line_end.true)) (wrote_none _)

pub bounds-out-0 : goal.bounds-out-0
bounds-out-0 c =
    let end = lacks-end c.args.s.now (sym c.ends_in_line_end.ensures ∙ c.if-ends_in_line_end.false) in
    omega (arith, ap length end)

pub bounds-out-1 : goal.bounds-out-1
bounds-out-1 c =
    let end = lacks-end c.args.s.now (sym c.ends_in_line_end.ensures ∙ c.if-ends_in_line_end.false) in
    omega (arith, ap length end, length-set c.args.out.now 0 CR)

pub returns : goal.returns
returns c =
    let end = lacks-end c.args.s.now (sym c.ends_in_line_end.ensures ∙ c.if-ends_in_line_end.false) in
    let room : 2 ≤ length c.args.out.now = omega (arith, ap length end) in
    rw end (record { counted = refl; written = end-put c.args.out.now room })
