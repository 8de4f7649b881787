-- The answer's number, and what is left. Assumes nothing.
use Rattle.capping.proofs.TestLaws.{test-told}
use Rattle.capping.proofs.exports.capping_test.Goals as goal

pub returns : goal.returns
returns c = let both = test-told _ c.told_by_test.ensures.value c.told_by_test.ensures.left_after c.test.ensures in
    record { value = both.0; left_after = both.1 }
