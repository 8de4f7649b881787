-- Each call has a row fewer left. Assumes nothing.
use Rattle.affiliates.proofs.chains.+comes_back.Given as goal

abbrev pub decreases-comes_back : goal.decreases-comes_back
decreases-comes_back l = l.left
