-- It fits with all its quotes, or without them. Assumes nothing.
use mathlib.Core.Path.{sym}
use native.Mathlib.Omega.{arith}
use lib.ListN.{length}
use borrow.Author.Tests.{le-leb}
use Rattle.tidy.specs.promises.Copying.{copied}
use Rattle.tidy.proofs.CopyLaws.{unquoted-shorter, end_short, copied-length}
use Rattle.tidy.proofs.copying.fits.Goals as goal

pub overflow_add-s : goal.overflow_add-s
overflow_add-s c = omega (arith, c.last_end_length-end.ensures, end_short c.args.s.now)

pub returns-then-s-end : goal.returns-then-s-end
returns-then-s-end c =
    let start = c.args in
    let s = start.s.now in
    sym (le-leb (length (copied s)) start.room
    (omega (arith, copied-length s, unquoted-shorter s, c.last_end_length-end.ensures, c.if-s-end.true)))

pub overflow_add-result : goal.overflow_add-result
overflow_add-result c =
    let s = c.args.s.now in
    omega (arith, c.last_end_length-end.ensures, c.unquoted_length.ensures, unquoted-shorter s, end_short s)

pub returns : goal.returns
returns c =
    let s = c.args.s.now in
    rw (copied-length s, c.last_end_length-end.ensures, c.unquoted_length.ensures)
