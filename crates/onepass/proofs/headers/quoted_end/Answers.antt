-- A header in quotes, one byte a turn. Assumes nothing.
use Rattle.onepass.proofs.HeaderLaws.{quoted-none, quoted-next}
use Rattle.onepass.proofs.headers.quoted_end.Goals as goal

pub loop-b-init : goal.loop-b-init
loop-b-init c = quoted-none _ c.requires

pub loop-b-preserved : goal.loop-b-preserved
loop-b-preserved c = quoted-next _ _ _ _ _ c.loop-b.invariant c.loop-b-test.true c.in_ok-at.ensures
