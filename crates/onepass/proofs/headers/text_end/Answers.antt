-- A text at a place. Assumes nothing.
use Rattle.std.proofs.Common.{refl, arith}
use Rattle.onepass.proofs.HeaderLaws.{text-there, starts}
use Rattle.onepass.proofs.headers.text_end.Goals as goal

pub returns-then-starts_with : goal.returns-then-starts_with
returns-then-starts_with c = text-there _ _ _ _ (omega arith) refl (starts _ _ c.starts_with.ensures.value c.if-starts_with.true)
