-- Rows linked one a turn. Assumes nothing.
use Rattle.links.proofs.LinkLaws.{Linking}
use Rattle.curves.specs.promises.Keys.{own_keys, row_key}
use Rattle.curves.proofs.keys.link_schedules.Given as goal

abbrev pub invariant-loop-k : goal.invariant-loop-k
invariant-loop-k l = Linking (row_key l.numbers l.cells) own_keys l.n l.links l.k
