-- The parties, one row a turn. Assumes nothing.
use Rattle.market.proofs.ListingLaws.{Listing}
use Rattle.market.proofs.parties.list_parties.Given as goal

abbrev pub invariant-loop-row : goal.invariant-loop-row
invariant-loop-row l = Listing l.n l.cells l.initial.out l.out l.row l.count
