-- By what the test answered. Assumes nothing.
use Rattle.capping.proofs.TestLaws.{tested-number, tested-left, refused-number, refused-left}
use Rattle.capping.proofs.calls.told_by_test.Goals as goal

pub returns-in-Some : goal.returns-in-Some
returns-in-Some c =
    let came = c.in-Some.is in
    record { value = tested-number came c.number_of.ensures; left_after = tested-left came _ }

pub returns-in-None : goal.returns-in-None
returns-in-None c = record { value = refused-number c.in-None.is; left_after = refused-left c.in-None.is _ }
