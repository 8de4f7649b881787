-- A header, in quotes or not. Assumes nothing.
use Rattle.std.proofs.lemmas.Option.{IfSome_then}
use Rattle.onepass.specs.promises.Walk.{Begins}
use Rattle.onepass.proofs.HeaderLaws.{begins-second, starts}
use Rattle.onepass.proofs.headers.either_end.Goals as goal

pub returns-then-starts_with : goal.returns-then-starts_with
returns-then-starts_with c = Begins.the-first (starts _ _ c.starts_with.ensures.value c.if-starts_with.true)

pub returns-then-starts_with-2 : goal.returns-then-starts_with-2
returns-then-starts_with-2 c = IfSome_then _ c.quoted_end.ensures (λ r t. begins-second _ _ _ r t)
