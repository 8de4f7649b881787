-- Whether a row's supply counts for a party and it is relevant. Assumes nothing.
use mathlib.Core.Bool.{and-false, and-true}
use Rattle.market.specs.Parties.{relevant_of}
use borrow.Author.Tests.{eq-eqb, ne_eqb}
use Rattle.market.proofs.parts.is_relevant_of.Goals as goal

pub returns-then-party-k : goal.returns-then-party-k
unfolding relevant_of
returns-then-party-k c = simp (← c.party.ensures, eq-eqb _ _ c.if-party-k.true, c.is_relevant.ensures, and-true)

pub returns : goal.returns
unfolding relevant_of
returns c = simp (← c.party.ensures, ne_eqb _ _ c.if-party-k.false, and-false)
