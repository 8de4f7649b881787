-- Rows linked, then the choice among them. Assumes nothing.
use Rattle.links.proofs.LinkLaws.{unlinked}
use Rattle.links.specs.promises.Links.{links_length}
use Rattle.test_choice.proofs.report.choose.Goals as goal

pub link_rows-requires-clause-unlinked : goal.link_rows-requires-clause-unlinked
link_rows-requires-clause-unlinked g c = unlinked links_length
