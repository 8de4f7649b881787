-- Each call has a row fewer left. Assumes nothing.
use Rattle.affiliates.proofs.chains.+head.Given as goal

abbrev pub decreases-head : goal.decreases-head
decreases-head l = l.left
