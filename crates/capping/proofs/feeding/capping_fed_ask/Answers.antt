-- What the test in the cells answers. Assumes nothing.
use Rattle.capping.proofs.TestLaws.{fed-told}
use Rattle.capping.proofs.feeding.capping_fed_ask.Goals as goal

pub returns : goal.returns
returns c =
    fed-told _ c.told_by_test.ensures.value c.told_by_test.ensures.left_after c.test_in-test.ensures c.ask.ensures
