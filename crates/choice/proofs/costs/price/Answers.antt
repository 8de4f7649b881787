-- The price of an hour by the row's kind and listed price. Assumes nothing.
use Rattle.choice.specs.Cost.{price}
use Rattle.choice.proofs.costs.price.Goals as goal

pub returns : goal.returns
unfolding price
returns c = simp (c.offer_price.ensures, c.kind.ensures, c.cell.ensures)
