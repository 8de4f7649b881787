-- A header in quotes, one byte a turn. Assumes nothing.
use Rattle.std.proofs.Common.{take}
use Rattle.onepass.specs.promises.Walk.{TextAt, quoted_text}
use Rattle.onepass.proofs.headers.quoted_end.Given as goal

abbrev pub invariant-loop-b : goal.invariant-loop-b
invariant-loop-b l = TextAt l.s 0 (quoted_text (take l.b-index l.header)) l.at
