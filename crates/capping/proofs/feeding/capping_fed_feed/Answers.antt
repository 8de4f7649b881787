-- The cells of the test with one amount more. Assumes nothing.
use mathlib.Core.Path.{◌∙◌, ap}
use Rattle.pivotal.specs.Fed.{fed}
use Rattle.pivotal.specs.declared.feeding.FedTest.{FedTest}
use Rattle.capping.specs.Fed.{fed_cells}
use Rattle.capping.proofs.feeding.capping_fed_feed.Goals as goal

pub returns : goal.returns
returns c =
    let amount = c.args.amount in
    c.lay_test.ensures ∙ ap fed_cells c.feed.ensures ∙ ap (λ (t : FedTest). fed_cells (fed t amount)) c.test_in-test.ensures
