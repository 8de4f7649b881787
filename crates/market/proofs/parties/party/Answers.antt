-- The party of a row is its supplier. Assumes nothing.
use Rattle.market.specs.Parties.{party}
use Rattle.market.proofs.parties.party.Goals as goal

pub returns : goal.returns
unfolding party
returns c = c.supplier.ensures
