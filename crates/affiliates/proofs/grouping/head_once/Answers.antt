-- A head that is known, or found and kept. Assumes nothing.
use native.Mathlib.Omega.{arith}
use Rattle.affiliates.proofs.GroupingLaws.{head-known, head-found}
use Rattle.affiliates.proofs.grouping.head_once.Goals as goal

pub returns-then-known-ne0 : goal.returns-then-known-ne0
returns-then-known-ne0 c =
    let heads = c.requires.heads_in in
    record { value = head-known _ _ heads c.at_place-known.ensures (omega arith); heads_in_2 = heads }

pub returns : goal.returns
returns c = let both = head-found _ _ _ _ c.requires.heads_in (omega arith) (omega arith)
    c.head-found.ensures.value
    (omega arith) in
    record { value = both.0; heads_in_2 = both.1 }
