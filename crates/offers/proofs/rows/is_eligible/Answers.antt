-- Whether a row is eligible. Assumes nothing.
use Rattle.offers.specs.Supply.{eligible}
use Rattle.offers.proofs.rows.is_eligible.Goals as goal

pub returns : goal.returns
unfolding eligible
returns c = rw c.abs_dfax.ensures
