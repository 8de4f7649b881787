-- The parties, one row a turn. Assumes nothing.
use native.Mathlib.Omega.{arith}
use Rattle.offers.proofs.CellLaws.{row-cells}
use Rattle.market.proofs.ListingLaws.{listing_none, listing-room, listing-next, listing-over}
use Rattle.market.proofs.parties.list_parties.Goals as goal

pub loop-row-init : goal.loop-row-init
loop-row-init c = listing_none _ _ _ c.requires.cells_in_bounds

pub party-k-requires : goal.party-k-requires
party-k-requires c = row-cells _ _ _ c.requires.supply_cells (omega arith)

pub insert-count-requires : goal.insert-count-requires
insert-count-requires c = listing-room _ _ _ _ _ _ c.loop-row.invariant

pub loop-row-preserved : goal.loop-row-preserved
loop-row-preserved c = let loop = c.loop-row in
    listing-next _ _ _ _ loop.row loop.count loop.invariant _ (omega arith) c.party-k.ensures _ _ c.insert-count.ensures

pub returns : goal.returns
returns c = listing-over _ _ _ _ _ _ c.loop-row.invariant (omega arith)
